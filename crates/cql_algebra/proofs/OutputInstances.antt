-- The laws of blocks at an interval of one instant: a premise that it doesn't meet is refused here.
use Rattle.std.proofs.Common.{◌≡◌, ℕ, pos, [], ◌∷◌, inl, refl, arith}
use Rattle.cql_value.specs.declared.value.Value.TheVariants.{Number}
use Rattle.cql_algebra.specs.declared.told.Output.{Output}
use Rattle.cql_algebra.specs.declared.told.Output.TheVariants.{Rows}
use Rattle.cql_algebra.specs.declared.told.Block.{Block}
use Rattle.cql_algebra.specs.Blocks.{AreBlocks, AreUnique, IsBlocksLaw, blocks_of}

-- one row is told at each instant
abbrev row : Output
row = Rows ((Number (pos 7) ∷ []) ∷ [])

abbrev always : ℕ → Output
always t = row

abbrev block : Block
block = record { from = 2; to = 2; output = row }

blocks : AreBlocks always 2 3 (block ∷ [])
blocks = record {
  runs = (
    record {
      start = omega arith;
      forward = omega arith;
      end = omega arith;
      some = refl;
      same = λ t h k. refl;
      before = λ t h k. absurd (omega arith);
      after = λ h. absurd (omega arith);
    },
    tt,
  );
  in_order = (tt, tt);
  all_told = λ t h k e. inl (omega arith, omega arith);
}

blocks_are_unique_at : AreUnique → block ∷ [] ≡ block ∷ []
blocks_are_unique_at law = law always 2 3 (block ∷ []) (block ∷ []) blocks blocks

blocks_law_at : IsBlocksLaw → block ∷ [] ≡ blocks_of always 2 3
blocks_law_at law = (law always 2 3 (block ∷ []) (omega arith)).0 blocks
