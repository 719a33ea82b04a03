-- The blocks of a query: the maximal runs of instants with equal output that isn't empty.
use Rattle.std.specs.Prelude.{◌≡◌, ◌≢◌, ℕ, zero, suc, ◌+◌, ◌-◌, ◌≤◌, ◌<◌, ◌⊎◌, ◌↔◌, ◌==◌, ◌&&◌, List, [], ◌∷◌, false, if◌then◌else◌}
use Rattle.std.specs.List.{AllByRecursion}
use Rattle.cql_algebra.specs.declared.told.Output.{Output}
use Rattle.cql_algebra.specs.declared.told.Block.{Block}
use Rattle.cql_algebra.specs.Output.{tells_no_row, same_output}

-- a run of the outputs on [c, l): its instants have its output, which isn't empty, and neither neighbour on [c, l) has it
pub record IsMaximalRun (O : ℕ → Output) (c l : ℕ) (b : Block) : Type 0 where
  pub start : c ≤ b.from
  pub forward : b.from ≤ b.to
  pub end : b.to < l
  pub some : tells_no_row b.output ≡ false
  pub same : (t : ℕ) → b.from ≤ t → t ≤ b.to → O t ≡ b.output
  pub before : (t : ℕ) → c ≤ t → t + 1 ≡ b.from → O t ≢ b.output
  pub after : b.to + 1 < l → O (b.to + 1) ≢ b.output

-- each ends before the later ones begin
abbrev pub AreInOrder : List Block → Type 0
AreInOrder [] = Unit {0}
AreInOrder (b ∷ bs) = AllByRecursion (λ d. b.to < d.from) bs × AreInOrder bs

-- the instant is one of some block's
abbrev pub IsTold : ℕ → List Block → Type 0
IsTold t [] = ⊥
IsTold t (b ∷ bs) = ((b.from ≤ t) × (t ≤ b.to)) ⊎ IsTold t bs

-- the blocks of the outputs on [c, l): maximal runs, in order, and every instant whose output isn't empty is told
pub record AreBlocks (O : ℕ → Output) (c l : ℕ) (bs : List Block) : Type 0 where
  pub runs : AllByRecursion (IsMaximalRun O c l) bs
  pub in_order : AreInOrder bs
  pub all_told : (t : ℕ) → c ≤ t → t < l → tells_no_row (O t) ≡ false → IsTold t bs

-- outputs have one list of blocks
abbrev pub AreUnique : Type 0
AreUnique = (O : ℕ → Output) (c l : ℕ) (bs ds : List Block) → AreBlocks O c l bs → AreBlocks O c l ds → bs ≡ ds

-- the blocks with one stretch more, whose output isn't empty
abbrev pub with_stretch : Block → List Block → List Block
with_stretch new [] = new ∷ []
with_stretch new (b ∷ []) = if b.to + 1 == new.from && same_output b.output new.output then record b { to = new.to } ∷ [] else b ∷ new ∷ []
with_stretch new (b ∷ d ∷ bs) = b ∷ with_stretch new (d ∷ bs)

abbrev pub extended : ℕ → ℕ → Output → List Block → List Block
extended from to output bs = if tells_no_row output then bs else with_stretch (record { from = from; to = to; output = output }) bs

-- the blocks of n instants from c on; what they are is said by AreBlocks
unfoldable pub blocks_of_many : (ℕ → Output) → ℕ → ℕ → List Block
blocks_of_many O c zero = []
blocks_of_many O c (suc n) = extended (c + n) (c + n) (O (c + n)) (blocks_of_many O c n)

-- the blocks of the outputs on [c, l)
unfoldable pub blocks_of : (ℕ → Output) → ℕ → ℕ → List Block
blocks_of O c l = blocks_of_many O c (l - c)

-- outputs have one list of blocks, and it is this one
abbrev pub IsBlocksLaw : Type 0
IsBlocksLaw = (O : ℕ → Output) (c l : ℕ) (bs : List Block) → c ≤ l → (AreBlocks O c l bs ↔ (bs ≡ blocks_of O c l))

-- the blocks on an interval are those of the outputs there
abbrev pub IsLocalLaw : Type 0
IsLocalLaw = (O P : ℕ → Output) (c l : ℕ) → ((t : ℕ) → c ≤ t → t < l → O t ≡ P t) → blocks_of O c l ≡ blocks_of P c l
