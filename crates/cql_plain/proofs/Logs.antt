-- Logs of changes, whose rows are turned one by one.
use Rattle.std.proofs.Common.{◌≡◌, ◌+◌, List, [], ◌∷◌, ◌++◌, append_assoc, not, ◌&&◌, if◌then◌else◌, sym, ap, ◌∙◌, subst}
use Rattle.cql_bag.specs.Bag.{Counts, IsBag}
use Rattle.cql_bag.specs.Law.{IsSameCountsLaw, IsPutAllLaw, IsTakeLaw}
use Rattle.cql_bag.specs.Changes.{changed, changed_by, CanChangeBy}
use Rattle.cql_bag.specs.declared.change.Change.{Change}
use Rattle.cql_ops.specs.Linear.{turned_changes, image, how_many}
use Rattle.cql_plain.specs.Logs.{logged_bag, logged, told_all, told_image, IsTellsLaw, IsAddsLaw}
use Rattle.cql_ops.proofs.Linear.{IsBag-changed_by, many_changed, size_image, turned-append, image_changed_by, changed_by-append, can_join}

can_split : (xs ys : List Change) (b : Counts) → CanChangeBy (xs ++ ys) b → CanChangeBy xs b × CanChangeBy ys (changed_by xs b)
can_split [] ys b can = (tt, can)
can_split (c ∷ xs) ys b can = let rest = can_split xs ys (changed c b) can.1 in ((can.0, rest.0), rest.1)

pub tells_law : IsSameCountsLaw → IsPutAllLaw → IsTakeLaw → IsTellsLaw
tells_law same puts takes f log can =
    let b = changed_by log.told [] in
    let is : IsBag b = IsBag-changed_by same puts takes log.told [] tt in
    let parts = can_split log.told log.untold [] can in
    let start : told_image f log ≡ image f b = (image_changed_by same puts takes f log.told [] tt parts.0).0 in
    let rest = image_changed_by same puts takes f log.untold b is parts.1 in
    let all : told_image f (told_all log) ≡ changed_by (turned_changes f log.untold) (told_image f log) = ap (λ l. changed_by l []) (turned-append f log.told log.untold) ∙ changed_by-append (turned_changes f log.told) (turned_changes f log.untold) [] in
    record {
      there = subst (CanChangeBy (turned_changes f log.untold)) (sym start) rest.1;
      told = sym all;
      whole = all ∙ ap (changed_by (turned_changes f log.untold)) start ∙ rest.0 ∙ ap (image f) (sym (changed_by-append log.told log.untold []));
      size = size_image same puts takes f (logged_bag log);
    }

pub adds_law : IsSameCountsLaw → IsPutAllLaw → IsTakeLaw → IsAddsLaw
adds_law same puts takes log c is can =
    let longer : log.told ++ (log.untold ++ c ∷ []) ≡ (log.told ++ log.untold) ++ c ∷ [] = sym (append_assoc log.told log.untold (c ∷ [])) in
    let bag : logged_bag (logged c log) ≡ changed c (logged_bag log) = ap (λ l. changed_by l []) longer ∙ changed_by-append (log.told ++ log.untold) (c ∷ []) [] in
    record {
      bag = bag;
      there = subst (λ l. CanChangeBy l []) (sym longer) (can_join (log.told ++ log.untold) (c ∷ []) [] is (can, tt));
      many = λ p. ap (λ b. how_many p b + (if not c.plus && p c.row then 1 else 0)) bag ∙ many_changed same puts takes p c (logged_bag log) (IsBag-changed_by same puts takes (log.told ++ log.untold) [] tt) can;
    }
