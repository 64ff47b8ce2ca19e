-- The accesses of sections that follow one another.
use Rattle.std.proofs.Common.{◌≡◌, ℕ, List, [], ◌∷◌, ◌++◌, ◌+◌, ◌-◌, ◌*◌, ◌≤◌, ◌^◌, ◌∙◌, ap, append-nil, arith}
use Rattle.std.proofs.lemmas.Grind.{flat_map-append}
use Rattle.std.proofs.Math.Nat.{le-mul_of_pos_right, div-le_self}
use Rattle.ob_base.specs.Numbers.{blocks_for}
use Rattle.std.proofs.lemmas.List.Sums.{sum_by-append}
use Rattle.ob_base.specs.declared.schema.Column.{Column}
use Rattle.ob_base.specs.Schemas.{Columns, width, kind_width}
use Rattle.ob_script.specs.declared.section.Section.{Section}
use Rattle.ob_script.specs.Sections.{accesses_of, all_accesses}

pub all_more : (sections : List Section) (section : Section) → all_accesses (sections ++ section ∷ []) ≡ all_accesses sections ++ accesses_of section
all_more sections section = flat_map-append accesses_of sections (section ∷ []) ∙ ap (λ w. all_accesses sections ++ w) (append-nil (accesses_of section))

-- a joined row has one mark
pub width_both : (a b : Columns) → width (a ++ b) ≡ width a + width b - 1
width_both a b = let e = sum_by-append (λ (c : Column). kind_width c.kind) a b in omega arith

-- a region has no more blocks than slots
pub few_blocks : (b pack n : ℕ) → 1 ≤ pack → b * pack ≤ n → b ≤ n
few_blocks b pack n some few = omega (arith, le-mul_of_pos_right {m = pack} b some)

pub few_of : (pack n : ℕ) → n ≤ 2 ^ 20 → blocks_for pack n ≤ 2 ^ 24
few_of pack n h = omega (arith, div-le_self n pack)
