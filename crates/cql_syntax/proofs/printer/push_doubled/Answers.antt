use Rattle.std.proofs.Common.{◌≡◌, List, ℕ, if◌then◌else◌, [], ◌∷◌, ◌++◌, Result, Ok, Err, OnOk, is_ok, rules, ap, ◌∙◌, lit<}
use Rattle.cql_syntax.proofs.Quotes.{doubled_turn, doubled_end}
use Rattle.cql_syntax.proofs.Splits.{split_some, split_none}
use Rattle.cql_syntax.proofs.printer.push_doubled.Goals as goal

pub loop-before-preserved : goal.loop-before-preserved
loop-before-preserved c =
    let cut = split_some c.loop-before.text.now c.split_once.result (c.in-Some.before, c.in-Some.after) c.split_once.ensures.cases c.in-Some.is in
    (doubled_turn _ _ c.in-Some.before.now c.in-Some.after.now c.loop-before.text.now _ cut.0 cut.1 (c.in_ok-push_str-2.ensures.bytes ∙ ap (λ z. z ++ 39 ∷ 39 ∷ []) c.in_ok-push_str.ensures.bytes) c.loop-before.invariant.0, search rules)

pushed : {A E : Type 0} (r : Result A E) (out now enc all : List ℕ) → now ≡ (if is_ok r then out ++ enc else out) → enc ≡ 39 ∷ [] → (out ++ 39 ∷ [] ≡ all) → OnOk r (now ≡ all)
pushed (Ok x) out now enc all g e h = g ∙ ap (λ z. out ++ z) e ∙ h
pushed (Err x) out now enc all g e h = tt

pub returns : goal.returns
returns c =
    let clean = split_none c.loop-before.text.now c.split_once.result c.split_once.ensures.cases c.in_default.is in
    pushed c.push.result _ _ _ _ c.push.ensures.bytes (c.push.ensures.ascii (lit< tt))
    (doubled_end _ _ c.loop-before.text.now _ clean (ap (λ z. z ++ 39 ∷ []) c.in_ok-push_str-3.ensures.bytes) c.loop-before.invariant.0)
