-- How a file begins.
use Rattle.std.proofs.Common.{◌≡◌, ◌≢◌, ℕ, ◌+◌, ◌<◌, ◌≤◌, Bool, Option, Some, None, List, [], ◌∷◌, ◌++◌, length, drop, Bor, refl, sym, ap, ◌∙◌, arith, append_assoc, append-nil, length-append}
use Rattle.std.specs.Prelude.{IfSome, IfNone, MatchOption}
use Rattle.std.specs.Io.KnownBytes.{Consumes, Keeps, prepend_known}
use Rattle.cql_journal.specs.Record.{heading}
use Rattle.cql_journal.specs.Reading.{Stops}
use Rattle.cql_journal.specs.Starting.{IsNew, IsOther, IsNoFile}
use Rattle.cql_journal.specs.declared.recovery.RecoveryFault.{RecoveryFault}
use Rattle.cql_journal.specs.declared.recovery.RecoveryFault.TheVariants.{OtherFormat, Record, Damaged, Failed, NoMemory, TooMany}
use Rattle.cql_journal.proofs.Batches.{within}
use Rattle.cql_journal.proofs.Finding.{drop_front}
use Rattle.cql_journal.proofs.Hiding.{if_kept, kept_then, held_taken}

-- what is behind some bytes in the first line
pub lost_some : (text held : List ℕ) (r : Option (Bor (List ℕ))) → text ≡ heading → MatchOption r ((rest : List ℕ) → text ≢ held ++ rest) (λ x. text ≡ held ++ x.now) → IfSome r (λ lost. heading ≡ held ++ lost.now)
lost_some text held None e m = tt
lost_some text held (Some x) e m = sym e ∙ m

pub lost_none : (text held : List ℕ) (r : Option (Bor (List ℕ))) → text ≡ heading → MatchOption r ((rest : List ℕ) → text ≢ held ++ rest) (λ x. text ≡ held ++ x.now) → IfNone r ((lost : List ℕ) → heading ≢ held ++ lost)
lost_none text held None e m = λ lost is. m lost (e ∙ is)
lost_none text held (Some x) e m = tt

its_length : length heading ≡ 17
its_length = refl

pub heading_taken : (come known : Option (List ℕ)) (held left behind : List ℕ) → Keeps come (prepend_known held known) → held ≡ heading ++ behind → left ≡ drop 17 held → Consumes come (prepend_known left known) heading
heading_taken come known held left behind k is d =
    let rest : left ≡ behind = d ∙ ap (drop 17) is ∙ ap (λ n. drop n (heading ++ behind)) (sym its_length) ∙ drop_front heading behind in
    kept_then come (prepend_known held known) (prepend_known left known) heading k (held_taken known held heading left (is ∙ ap (λ t. heading ++ t) (sym rest)))

pub other_long : (come known : Option (List ℕ)) (held : List ℕ) → Keeps come (prepend_known held known) → 17 ≤ length held → ((behind : List ℕ) → held ≢ heading ++ behind) → IfSome come IsOther
other_long come None held k l free = if_kept IsOther come None k tt
other_long come (Some ys) held k l free =
    let size : length heading ≤ length held = omega (arith, l, its_length) in
    if_kept IsOther come (Some (held ++ ys)) k
    ((λ behind is. free (drop (length heading) held) (within heading held behind ys size (sym is))), (λ lost is. free (drop (length heading) held) (within heading held [] (ys ++ lost) size (append-nil heading ∙ is ∙ append_assoc held ys lost))))

pub new_file : (come known : Option (List ℕ)) (held lost : List ℕ) → Keeps come (prepend_known held known) → IfSome (prepend_known held known) (λ text. (text ≡ held) × (length text < 17)) → heading ≡ held ++ lost → IfSome come IsNew
new_file come None held lost k h is = if_kept IsNew come None k tt
new_file come (Some ys) held lost k h is = if_kept IsNew come (Some (held ++ ys)) k (lost, is ∙ ap (λ t. t ++ lost) (sym h.0), h.1)

pub other_short : (come known : Option (List ℕ)) (held : List ℕ) → Keeps come (prepend_known held known) → IfSome (prepend_known held known) (λ text. (text ≡ held) × (length text < 17)) → ((lost : List ℕ) → heading ≢ held ++ lost) → IfSome come IsOther
other_short come None held k h free = if_kept IsOther come None k tt
other_short come (Some ys) held k h free =
    if_kept IsOther come (Some (held ++ ys)) k
    ((λ behind is. absurd (let l : length (held ++ ys) ≡ length (heading ++ behind) = ap length is in omega (arith, l, length-append heading behind, its_length, h.1))), (λ lost is. free lost (is ∙ ap (λ t. t ++ lost) h.0)))

pub no_file : (come : Option (List ℕ)) (over : Bool) (fault : RecoveryFault) → Stops over fault → IsNoFile come over fault
no_file come over OtherFormat s = absurd s
no_file come over (Record stop) s = s
no_file come over (Damaged bytes) s = s
no_file come over Failed s = s
no_file come over NoMemory s = s
no_file come over TooMany s = s
