use Rattle.std.proofs.lemmas.Grind.{common_steps}
use Rattle.std.proofs.Common.{◌++◌, map, ap, ◌∙◌, arith}
use Rattle.std.specs.List.{filter}
use Rattle.cql_window.specs.Changes.{is_within}
use Rattle.cql_window.specs.Moments.{instant_of}
use Rattle.cql_window.proofs.Leaving.{ascending_front, ascending_back, range_found}
use Rattle.cql_window.proofs.instants.candidates.Goals.{in-Range+in_ok-push_moments-in-Range+in_ok-push_moments-in-Range-2, in_default}
use Rattle.cql_window.proofs.instants.candidates.Goals as goal

pub push_moments-requires : goal.push_moments-requires
push_moments-requires c = ascending_front c.args.content.now c.args.unseen.now c.requires

pub push_moments-requires-in-Range : goal.push_moments-requires-in-Range
push_moments-requires-in-Range c = ascending_back c.args.content.now c.args.unseen.now c.requires

pub push_moments-requires-2 : goal.push_moments-requires-2
push_moments-requires-2 c = ascending_back c.args.content.now c.args.unseen.now c.requires

pub returns : goal.returns
returns c = elim c.match-window.branch [
  | in-Range+in_ok-push_moments-in-Range+in_ok-push_moments-in-Range-2 w ↦ range_found c.args.from c.args.to w.in-Range.length w.in-Range.slide c.args.content.now c.args.unseen.now c.args.window.now c.match-window.comes _ _ _ _ w.in-Range.is w.comes-is c.new-instants.ensures.items w.in_ok-push_moments-in-Range.ensures w.in_ok-push_moments-in-Range-2.ensures (c.in_ok-push_moments.ensures ∙ ap (λ v. v.items ++ filter (is_within c.args.from c.args.to) (map (instant_of c.match-window.comes) c.args.unseen.now)) w.instants-is)
  | in_default w ↦ grind (arith, common_steps)
]
