-- What a frame met in a step, read back from the changes that the step wrote: private to the crate.
-- Assumes nothing.
use Rattle.std.specs.Prelude.{◌≡◌, ℕ, ◌-◌, ◌≤◌, Bool, List, length}
use Rattle.rule.specs.Limits.{largest_instant}
use Rattle.rule.specs.History.{changes}
use Rattle.rule.proofs.Jump.{meets}
use Rattle.course.specs.Columns.{into, instants_of, octets_of}
use Rattle.frames.specs.declared.Frame.{Frame}
use Rattle.frames.specs.Frame.{decode_frame}

-- what it takes to read n changes back
pub record Legible (c e n : ℕ) (at os : List ℕ) : Type 0 where
  pub clock : c ≤ largest_instant
  pub end : e ≤ largest_instant
  pub instants : n ≤ length at
  pub octets : n ≤ length os

-- the changes of g after c and up to e stand in two buffers, n of them
pub record Holds (g : ℕ → ℕ) (c e n : ℕ) (at os : List ℕ) : Type 0 where
  pub from : c ≤ e
  pub count : n ≡ length (changes g c (e - c))
  pub at₀ : List ℕ
  pub os₀ : List ℕ
  pub instants : at ≡ into (instants_of (changes g c (e - c))) at₀
  pub octets : os ≡ into (octets_of (changes g c (e - c))) os₀

-- whether the frame met a closed gate of g, by whatever function's changes they are, with its octet at c
abbrev pub MetBy : Frame → ℕ → ℕ → ℕ → ℕ → List ℕ → List ℕ → Bool → Type 0
MetBy f octet c e n at os r = (g : ℕ → ℕ) → Holds g c e n at os → octet ≡ g c → r ≡ meets g c (e - c) (decode_frame f)

abbrev pub MetOn : (ℕ → ℕ) → Frame → ℕ → ℕ → ℕ → List ℕ → List ℕ → Bool → Type 0
MetOn g f c e n at os r = Holds g c e n at os → r ≡ meets g c (e - c) (decode_frame f)
