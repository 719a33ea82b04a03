-- Runs that are being built.
use Rattle.std.specs.Prelude.{◌≡◌, ℕ, ◌+◌, ◌≤◌, List, [], ◌∷◌, ◌++◌}
use Rattle.cql_algebra.specs.declared.told.Output.{Output}
use Rattle.cql_algebra.specs.declared.told.Block.{Block}
use Rattle.cql_algebra.specs.Blocks.{AreBlocks}

-- the instant up to which stretches came, and the blocks so far
pub record RunsModel : Type 0 where
  pub next : ℕ
  pub blocks : List Block

-- they stand for outputs from c on: the blocks are those of all instants so far
abbrev pub StandFor : (ℕ → Output) → ℕ → RunsModel → Type 0
StandFor O c runs = (c ≤ runs.next) × AreBlocks O c runs.next runs.blocks

-- each instant from one to the other has this output
abbrev pub IsStretch : (ℕ → Output) → ℕ → ℕ → Output → Type 0
IsStretch O from to output = (t : ℕ) → from ≤ t → t ≤ to → O t ≡ output

-- whatever the blocks so far stand for, the later ones stand for it with one stretch more
abbrev pub Extends : ℕ → ℕ → Output → List Block → List Block → Type 0
Extends from to output old new = (O : ℕ → Output) (c : ℕ) → c ≤ from → IsStretch O from to output → AreBlocks O c from old → AreBlocks O c (to + 1) new

-- the last block adjoins and has this output
abbrev pub GoesOn : List Block → ℕ → Output → Type 0
GoesOn bs from output = (front : List Block) × (b : Block) × (bs ≡ front ++ b ∷ []) × (b.to + 1 ≡ from) × (b.output ≡ output)

-- the last block ends just before the instant
abbrev pub Adjoins : List Block → ℕ → Type 0
Adjoins bs from = (front : List Block) × (b : Block) × (bs ≡ front ++ b ∷ []) × (b.to + 1 ≡ from)
