-- What items ask, one item after another; and the items' values from what is kept.
use Rattle.std.proofs.Common.{◌≡◌, ◌≢◌, inl, inr, ℕ, ◌<◌, ◌+◌, List, [], ◌∷◌, ◌++◌, take, length, get_or, Option, Some, None, slice_get, refl, sym, ap, ◌∙◌, subst, add-one}
use Rattle.std.specs.List.{AllByRecursion, AllZip, Contains}
use Rattle.std.proofs.Math.Seq.{take-suc}
use Rattle.cql_value.proofs.Members.{get_push}
use Rattle.cql_plan.specs.declared.node.Item.{Item}
use Rattle.cql_plan.specs.declared.node.Item.TheVariants as i
use Rattle.cql_groups.specs.Layouts.{asks, IsOther, IsGrownBy, AreApart, IsAskedIn, IsSourceOf, AreSources}
use Rattle.cql_groups.specs.declared.accumulator.AccumulatorKind.{AccumulatorKind}
use Rattle.cql_groups.specs.declared.layout.ItemSource.{ItemSource}
use Rattle.cql_groups.specs.declared.layout.ItemSource.TheVariants as s
use Rattle.cql_groups.proofs.Keyed.{all_more}

-- ---- what was asked stands where it stood

abbrev StandsIn : List AccumulatorKind → List AccumulatorKind → Type 0
StandsIn before after = (at : ℕ) (a : AccumulatorKind) → slice_get before at ≡ Some a → slice_get after at ≡ Some a

stands : (o : Option AccumulatorKind) (before after : List AccumulatorKind) → IsGrownBy o before after → StandsIn before after
stands None before after same at a h = ap (λ l. slice_get l at) same ∙ h
stands (Some one) before after (inl same) at a h = ap (λ l. slice_get l at) same ∙ h
stands (Some one) before after (inr (more, other)) at a h = ap (λ l. slice_get l at) more ∙ get_push before (one ∷ []) at a h

still_source : (before after : List AccumulatorKind) → StandsIn before after → (x : Item) (source : ItemSource) → IsSourceOf before x source → IsSourceOf after x source
still_source before after on (i.Value x) (s.Column at) h = h
still_source before after on (i.Value x) s.Count h = absurd h
still_source before after on (i.Value x) (s.Sum p) h = absurd h
still_source before after on (i.Value x) (s.Least p) h = absurd h
still_source before after on (i.Value x) (s.Greatest p) h = absurd h
still_source before after on i.Count (s.Column at) h = absurd h
still_source before after on i.Count s.Count h = tt
still_source before after on i.Count (s.Sum p) h = absurd h
still_source before after on i.Count (s.Least p) h = absurd h
still_source before after on i.Count (s.Greatest p) h = absurd h
still_source before after on (i.Sum at) (s.Column c) h = absurd h
still_source before after on (i.Sum at) s.Count h = absurd h
still_source before after on (i.Sum at) (s.Sum p) h = on p _ h
still_source before after on (i.Sum at) (s.Least p) h = absurd h
still_source before after on (i.Sum at) (s.Greatest p) h = absurd h
still_source before after on (i.Min at) (s.Column c) h = absurd h
still_source before after on (i.Min at) s.Count h = absurd h
still_source before after on (i.Min at) (s.Sum p) h = absurd h
still_source before after on (i.Min at) (s.Least p) h = on p _ h
still_source before after on (i.Min at) (s.Greatest p) h = absurd h
still_source before after on (i.Max at) (s.Column c) h = absurd h
still_source before after on (i.Max at) s.Count h = absurd h
still_source before after on (i.Max at) (s.Sum p) h = absurd h
still_source before after on (i.Max at) (s.Least p) h = absurd h
still_source before after on (i.Max at) (s.Greatest p) h = on p _ h

still_sources : (before after : List AccumulatorKind) → StandsIn before after → (xs : List Item) (ss : List ItemSource) → AllZip (IsSourceOf before) xs ss → AllZip (IsSourceOf after) xs ss
still_sources before after on [] [] all = tt
still_sources before after on [] (t ∷ ss) all = absurd all
still_sources before after on (x ∷ xs) [] all = absurd all
still_sources before after on (x ∷ xs) (t ∷ ss) all = (still_source before after on x t all.0, still_sources before after on xs ss all.1)

zip_more : {A B : Type 0} (P : A → B → Type 0) (xs : List A) (ys : List B) (x : A) (y : B) → AllZip P xs ys → P x y → AllZip P (xs ++ x ∷ []) (ys ++ y ∷ [])
zip_more P [] [] x y all p = (p, tt)
zip_more P [] (b ∷ ys) x y all p = absurd all
zip_more P (a ∷ xs) [] x y all p = absurd all
zip_more P (a ∷ xs) (b ∷ ys) x y all p = (all.0, zip_more P xs ys x y all.1 p)

-- ---- one item more

apart_more : (xs : List AccumulatorKind) (one : AccumulatorKind) → AreApart xs → AllByRecursion (IsOther one) xs → AreApart (xs ++ one ∷ [])
apart_more [] one apart other = (tt, tt)
apart_more (x ∷ xs) one apart other = (all_more (λ y. y ≢ x) xs one apart.0 (λ e. other.0 (sym e)), apart_more xs one apart.1 other.1)

module _ (items : List Item) (x : Item) (is_in : Contains items x) where
  asked_more : (o : Option AccumulatorKind) (before after : List AccumulatorKind) → asks x ≡ o → IsGrownBy o before after → AllByRecursion (IsAskedIn items) before → AllByRecursion (IsAskedIn items) after
  asked_more None before after e same all = subst (AllByRecursion (IsAskedIn items)) (sym same) all
  asked_more (Some one) before after e (inl same) all = subst (AllByRecursion (IsAskedIn items)) (sym same) all
  asked_more (Some one) before after e (inr (more, other)) all = subst (AllByRecursion (IsAskedIn items)) (sym more) (all_more (IsAskedIn items) before one all (x, is_in, e))

  still_apart : (o : Option AccumulatorKind) (before after : List AccumulatorKind) → IsGrownBy o before after → AreApart before → AreApart after
  still_apart None before after same apart = subst AreApart (sym same) apart
  still_apart (Some one) before after (inl same) apart = subst AreApart (sym same) apart
  still_apart (Some one) before after (inr (more, other)) apart = subst AreApart (sym more) (apart_more before one apart other)

  one_more : (model : List Item) (before after : List AccumulatorKind) (sources : List ItemSource) (source : ItemSource) → AreSources items model before sources → IsGrownBy (asks x) before after → IsSourceOf after x source → AreSources items (model ++ x ∷ []) after (sources ++ source ∷ [])
  one_more model before after sources source was grown of = record {
    each = zip_more (IsSourceOf after) model sources x source (still_sources before after (stands (asks x) before after grown) model sources was.each) of;
    wanted = asked_more (asks x) before after refl grown was.wanted;
    apart = still_apart (asks x) before after grown was.apart;
  }

pub next_source : (items : List Item) (k : ℕ) (x : Item) (before after : List AccumulatorKind) (sources : List ItemSource) (source : ItemSource) → k < length items → x ≡ get_or items k x → AreSources items (take k items) before sources → IsGrownBy (asks x) before after → IsSourceOf after x source → AreSources items (take (k + 1) items) after (sources ++ source ∷ [])
next_source items k x before after sources source lt is was grown of =
    rw add-one (subst (λ l. AreSources items l after (sources ++ source ∷ [])) (sym (take-suc items k x lt ∙ ap (λ y. take k items ++ y ∷ []) (sym is))) (one_more items x (k, lt, sym is) (take k items) before after sources source was grown of))
