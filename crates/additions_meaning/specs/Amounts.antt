-- Words that differ by an amount, and two runs of a job that differ in their words alone.
use Rattle.std.specs.Prelude.{◌≡◌, ℕ, ◌+◌, ◌%◌, ◌^◌, List, length, slice_index}
use Rattle.job_types.specs.Own.{World}
use Rattle.source_meaning.specs.Config.{Config}

-- at each word of D the second list has so much more, modulo 2^32, and all else is the same
pub record DiffersBy (D : ℕ → Type 0) (more : ℕ → ℕ) (s t : List ℕ) : Type 0 where
  pub long : length s ≡ length t
  pub same : (w : ℕ) → (D w → ⊥) → slice_index s w ≡ slice_index t w
  pub added : (w : ℕ) → D w → slice_index t w ≡ (slice_index s w + more w) % 2 ^ 32

-- the same job in another world
abbrev pub with_world : World → Config → Config
with_world w c = record c { world = w }

-- two runs that are at the same place, with the same temporaries, callers, sends, chain, count and
-- outcome, and whose words differ by such amounts
pub record RunsAlike (D : ℕ → Type 0) (more : ℕ → ℕ) (c d : Config) : Type 0 where
  pub same : d ≡ with_world d.world c
  pub words : DiffersBy D more c.world.store d.world.store
