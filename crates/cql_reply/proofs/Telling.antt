-- Lemmas on what is told and what is to come.
use Rattle.std.proofs.Common.{◌≡◌, ℕ, ◌<◌, true, false, List, [], ◌∷◌, ◌++◌, length, drop, arith, refl, sym, ap, ◌∙◌, append_assoc}
use Rattle.std.proofs.lemmas.List.{append-nil}
use Rattle.cql_value.specs.declared.value.Value.{Value}
use Rattle.std.specs.Prelude.{codes, decimal}
use Rattle.cql_algebra.specs.declared.told.Output.{Output}
use Rattle.cql_algebra.specs.declared.told.Output.TheVariants.{Rows, Signed, Fault}
use Rattle.cql_algebra.specs.declared.told.Block.{Block}
use Rattle.cql_reply.specs.declared.list_place.ListPlace.{ListPlace}
use Rattle.cql_reply.specs.declared.row_place.RowPlace.{RowPlace}
use Rattle.cql_reply.specs.Line.{items_text, list_text, value_text, row_text, rows_text, block_text}
use Rattle.cql_reply.specs.declared.line_place.LinePlace.{LinePlace}
use Rattle.cql_reply.specs.declared.line_place.LineStage.TheVariants.{Beginning, Blocks}
use Rattle.cql_reply.specs.Held.{Held}
use Rattle.cql_reply.specs.Place.{list_rest, row_rest, head_rest, tail_text, block_rest, ending_text, line_from, line_rest}

-- what comes behind stays behind
pub told_behind : (before after rest left behind : List ℕ) → after ++ left ≡ before ++ rest → after ++ (left ++ behind) ≡ before ++ (rest ++ behind)
told_behind before after rest left behind told =
    sym (append_assoc after left behind) ∙ ap (λ l. l ++ behind) told ∙ append_assoc before rest behind

-- nothing is left but what comes behind, and that is told
pub told_to_end : (before now left behind end all : List ℕ) → now ++ left ≡ before → left ≡ [] → end ≡ now ++ behind → before ++ behind ≡ all → end ++ [] ≡ all
told_to_end before now left behind end all told none is whole =
    let same : now ≡ before = sym (append-nil now) ∙ ap (λ l. now ++ l) (sym none) ∙ told in
    append-nil end ∙ is ∙ ap (λ l. l ++ behind) same ∙ whole

-- items with a comma before each are the items of a list behind its opening bracket
pub opened : (values : List Value) → 0 < length values → (text : List ℕ) → text ≡ items_text value_text true values → 91 ∷ drop 1 text ≡ 91 ∷ items_text value_text false values
opened [] some text is = absurd (omega (arith, some))
opened (v ∷ vs) some text is = ap (λ t. 91 ∷ drop 1 t) is

-- nothing of a block is told
pub block_begins : (place : ListPlace RowPlace) → ((rows : List (List Value)) → list_rest row_text row_rest rows place ≡ list_text row_text rows) → (b : Block) → head_rest b place ≡ block_text b
block_begins place begins b = by_output b.output
  where
    by_output : (o : Output) → head_rest (record { from = b.from; to = b.to; output = o }) place ≡ block_text (record { from = b.from; to = b.to; output = o })
    by_output (Rows rows) = ap (λ l. codes "{\"from\":" ++ (decimal b.from ++ (codes ",\"rows\":" ++ (l ++ tail_text b.to)))) (begins rows)
    by_output (Signed plus minus) = ap (λ l. codes "{\"from\":" ++ (decimal b.from ++ (codes ",\"minus\":" ++ (l ++ (codes ",\"plus\":" ++ (rows_text plus ++ tail_text b.to)))))) (begins minus)
    by_output (Fault fault) = refl

-- a line begins, or goes on within its blocks
pub line_begins : (blocks : List Block) (next : ℕ) (before put room : Held) (old now : LinePlace) → old.stage ≡ Beginning → put.bytes ≡ before.bytes ++ codes "{\"blocks\":" → room ≡ put → now ≡ record { stage = Blocks; blocks = old.blocks }
    → room.bytes ++ (list_rest block_text block_rest blocks now.blocks ++ ending_text next) ≡ before.bytes ++ line_rest blocks next old
line_begins blocks next before put room old now stage told same goes =
    let left = list_rest block_text block_rest blocks old.blocks ++ ending_text next in
    ap (λ (r : Held). r.bytes ++ (list_rest block_text block_rest blocks now.blocks ++ ending_text next)) same
    ∙ ap (λ (l : LinePlace). put.bytes ++ (list_rest block_text block_rest blocks l.blocks ++ ending_text next)) goes
    ∙ ap (λ l. l ++ left) told ∙ append_assoc before.bytes (codes "{\"blocks\":") left
    ∙ ap (λ s. before.bytes ++ line_from blocks next s old.blocks) (sym stage)

pub line_goes_on : (blocks : List Block) (next : ℕ) (before room : Held) (old now : LinePlace) → now.stage ≡ Blocks → room ≡ before → now ≡ old
    → room.bytes ++ (list_rest block_text block_rest blocks now.blocks ++ ending_text next) ≡ before.bytes ++ line_rest blocks next old
line_goes_on blocks next before room old now stage same goes =
    ap (λ s. room.bytes ++ line_from blocks next s now.blocks) (sym stage)
    ∙ ap (λ (r : Held). r.bytes ++ line_rest blocks next now) same ∙ ap (λ l. before.bytes ++ line_rest blocks next l) goes
