-- The laws of reading at a file of one record, worked by hand: a premise that it doesn't meet is refused here.
use Rattle.std.proofs.Common.{◌≡◌, List, [], ◌∷◌, ◌++◌, length, refl, sym, arith, append-nil}
use Rattle.cql_journal.specs.Record.{Entry, Fits, first_chain, record_lines, batch, AreBatches, chain_behind}
use Rattle.cql_journal.specs.Splits.{IsFile, file_of, IsOneReadingLaw, IsRoundTripLaw, IsAppendLaw, IsFrontLaw, EndsBefore}
use Rattle.cql_journal.proofs.Batches.{batch_size}

-- `b`, of the tenant `a`
abbrev entry : Entry
entry = record { tenant = 97 ∷ []; line = 98 ∷ [] }

fits : Fits entry
fits = record {
  spaceless = ((λ (e : 97 ≡ 32). absurd (omega (arith, e))), tt);
  feedless = ((λ (e : 97 ≡ 10). absurd (omega (arith, e))), tt);
  whole = ((λ (e : 98 ≡ 10). absurd (omega (arith, e))), tt);
}

abbrev batches : List (List Entry)
batches = (entry ∷ []) ∷ []

are : AreBatches first_chain batches
are =
    let size : length (record_lines first_chain (entry ∷ [])) ≡ 21 = refl in
    (record { fit = (fits, tt); short = omega (arith, size, batch_size first_chain (entry ∷ [])) }, tt)

round_trip : IsRoundTripLaw → IsFile (file_of batches) batches []
round_trip law = law batches are

one_reading : IsOneReadingLaw → IsRoundTripLaw → batches ≡ batches
one_reading law trip = (law (file_of batches) [] [] batches batches (trip batches are) (trip batches are)).0

front : IsFrontLaw → IsRoundTripLaw → (lost : List (List Entry)) × (batches ≡ batches ++ lost) × EndsBefore (chain_behind first_chain batches) lost []
front law trip = law (file_of batches) [] [] batches batches are (sym (append-nil (file_of batches))) (trip batches are)

append : IsAppendLaw → IsFile (file_of [] ++ batch first_chain (entry ∷ [])) batches []
append law = (law [] (entry ∷ []) tt are.0).0
