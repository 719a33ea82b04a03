-- What is yet to come of a line, from a place on.
use Rattle.std.specs.Prelude.{ℕ, ℤ, ⊤, true, List, [], ◌∷◌, ◌++◌, codes, decimal, drop}
use Rattle.std.specs.Fmt.{signed_decimal}
use Rattle.json.specs.Print.{escape, quoted}
use Rattle.cql_value.specs.declared.value.Value.{Value}
use Rattle.cql_value.specs.declared.value.Value.TheVariants.{Number, Text}
use Rattle.cql_algebra.specs.declared.told.Output.{Output}
use Rattle.cql_algebra.specs.declared.told.Output.TheVariants.{Rows, Signed, Fault}
use Rattle.cql_algebra.specs.declared.told.Block.{Block}
use Rattle.cql_reply.specs.declared.list_place.ListStage.{ListStage}
use Rattle.cql_reply.specs.declared.list_place.ListStage.TheVariants.{Opening as ListOpening, Later, Inside, Shut}
use Rattle.cql_reply.specs.declared.list_place.ListPlace.{ListPlace}
use Rattle.cql_reply.specs.declared.value_place.ValuePlace.{ValuePlace}
use Rattle.cql_reply.specs.declared.value_place.ValuePlace.TheVariants.{Opening, At, Told}
use Rattle.cql_reply.specs.declared.row_place.RowPlace.{RowPlace}
use Rattle.cql_reply.specs.declared.block_place.BlockStage.{BlockStage}
use Rattle.cql_reply.specs.declared.block_place.BlockStage.TheVariants.{Head, First, Last, Told as BlockTold}
use Rattle.cql_reply.specs.declared.block_place.BlockPlace.{BlockPlace}
use Rattle.cql_reply.specs.declared.line_place.LineStage.{LineStage}
use Rattle.cql_reply.specs.declared.line_place.LineStage.TheVariants.{Beginning, Blocks, Ended}
use Rattle.cql_reply.specs.declared.line_place.LinePlace.{LinePlace}
use Rattle.cql_reply.specs.Line.{items_text, list_text, value_text, row_text, rows_text, fault_word, block_text}

-- ---- lists

-- an item or the closing bracket is yet to come
abbrev pub IsOpen : ListStage → Type 0
IsOpen ListOpening = ⊤
IsOpen Later = ⊤
IsOpen Inside = ⊤
IsOpen Shut = ⊥

-- what is to come of a list, by the items from the place's own on
abbrev pub items_rest : {A P : Type 0} → (A → List ℕ) → (A → P → List ℕ) → ListStage → P → List A → List ℕ
items_rest text rest ListOpening inner items = list_text text items
items_rest text rest Later inner items = items_text text true items
items_rest text rest Inside inner [] = codes "]"
items_rest text rest Inside inner (x ∷ xs) = rest x inner ++ items_text text true xs
items_rest text rest Shut inner items = []

-- what is to come of a list
abbrev pub list_rest : {A P : Type 0} → (A → List ℕ) → (A → P → List ℕ) → List A → ListPlace P → List ℕ
list_rest text rest items place = items_rest text rest place.stage place.inner (drop place.index items)

-- ---- values and rows

abbrev pub number_rest : ℤ → ValuePlace → List ℕ
number_rest n Opening = signed_decimal n
number_rest n (At byte) = []
number_rest n Told = []

abbrev pub quoted_rest : List ℕ → ValuePlace → List ℕ
quoted_rest text Opening = quoted text
quoted_rest text (At byte) = escape (drop byte text) ++ codes "\""
quoted_rest text Told = []

abbrev pub value_rest : Value → ValuePlace → List ℕ
value_rest (Number n) place = number_rest n place
value_rest (Text t) place = quoted_rest t place

abbrev pub row_rest : List Value → RowPlace → List ℕ
row_rest row place = list_rest value_text value_rest row place.values

abbrev pub rows_rest : List (List Value) → ListPlace RowPlace → List ℕ
rows_rest = list_rest row_text row_rest

-- ---- blocks

-- what stands before the first instant
abbrev pub opening_text : Output → List ℕ
opening_text (Rows rows) = codes "{\"from\":"
opening_text (Signed plus minus) = codes "{\"from\":"
opening_text (Fault fault) = codes "{\"fault\":\"" ++ (fault_word fault ++ codes "\",\"from\":")

-- what stands before the rows is told
abbrev pub IsHeadTold : BlockStage → Type 0
IsHeadTold Head = ⊥
IsHeadTold First = ⊤
IsHeadTold Last = ⊤
IsHeadTold BlockTold = ⊤

-- the rows before the last ones: those that went
abbrev pub first_rows : Output → List (List Value)
first_rows (Rows rows) = []
first_rows (Signed plus minus) = minus
first_rows (Fault fault) = []

-- the rows, or those that came
abbrev pub last_rows : Output → List (List Value)
last_rows (Rows rows) = rows
last_rows (Signed plus minus) = plus
last_rows (Fault fault) = []

-- what stands behind the rows
abbrev pub tail_text : ℕ → List ℕ
tail_text to = codes ",\"to\":" ++ (decimal to ++ codes "}")

-- what is to come where nothing is told, by what is to come of the first list
abbrev pub head_rest : Block → ListPlace RowPlace → List ℕ
head_rest b place = with_output b.from b.to b.output
  where
    with_output : ℕ → ℕ → Output → List ℕ
    with_output from to (Rows rows) = codes "{\"from\":" ++ (decimal from ++ (codes ",\"rows\":" ++ (rows_rest rows place ++ tail_text to)))
    with_output from to (Signed plus minus) = codes "{\"from\":" ++ (decimal from ++ (codes ",\"minus\":" ++ (rows_rest minus place ++ (codes ",\"plus\":" ++ (rows_text plus ++ tail_text to)))))
    with_output from to (Fault fault) = codes "{\"fault\":\"" ++ (fault_word fault ++ (codes "\",\"from\":" ++ (decimal from ++ tail_text to)))

abbrev pub block_from : Block → BlockStage → ListPlace RowPlace → List ℕ
block_from b Head place = head_rest b place
block_from b First place = rows_rest (first_rows b.output) place ++ (codes ",\"plus\":" ++ (rows_text (last_rows b.output) ++ tail_text b.to))
block_from b Last place = rows_rest (last_rows b.output) place ++ tail_text b.to
block_from b BlockTold place = []

abbrev pub block_rest : Block → BlockPlace → List ℕ
block_rest b place = block_from b place.stage place.rows

-- ---- lines

-- what stands behind the blocks
abbrev pub ending_text : ℕ → List ℕ
ending_text next = codes ",\"next\":" ++ (decimal next ++ codes "}\n")

abbrev pub line_from : List Block → ℕ → LineStage → ListPlace BlockPlace → List ℕ
line_from blocks next Beginning place = codes "{\"blocks\":" ++ (list_rest block_text block_rest blocks place ++ ending_text next)
line_from blocks next Blocks place = list_rest block_text block_rest blocks place ++ ending_text next
line_from blocks next Ended place = []

abbrev pub line_rest : List Block → ℕ → LinePlace → List ℕ
line_rest blocks next place = line_from blocks next place.stage place.blocks
