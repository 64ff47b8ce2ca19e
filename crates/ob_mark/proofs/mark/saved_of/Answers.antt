use Rattle.std.proofs.Common.{◌≡◌, ◌∙◌, ◌++◌, Some, codes, arith}
use Rattle.ob_reopen.specs.declared.mark.Mark.TheVariants.{Saved}
use Rattle.ob_mark.specs.Marks.{bytes_text, salts_text}
use Rattle.ob_mark.proofs.MarkLemmas.{after_region, after_blocks, after_number, marked_as}
use Rattle.ob_mark.proofs.mark.saved_of.Goals as goal

pub returns-in_err-region-clause-read : goal.returns-in_err-region-clause-read
returns-in_err-region-clause-read c = λ region blocks number pack salt check within salts checks is.
    absurd (c.in_err-region.ensures.read region (after_region blocks number pack (codes " " ++ salts_text salt check)) (omega (arith, within.region_most)) is)

pub returns-in_err-blocks-clause-read : goal.returns-in_err-blocks-clause-read
returns-in_err-blocks-clause-read c = λ region blocks number pack salt check within salts checks is.
    let first = c.in_ok-region.ensures.read region (after_region blocks number pack (codes " " ++ salts_text salt check)) (omega (arith, within.region_most)) is in
    absurd (c.in_err-blocks.ensures.read blocks (after_blocks number pack (codes " " ++ salts_text salt check)) (omega (arith, within.blocks_most)) first.1)

pub returns-in_err-number-clause-read : goal.returns-in_err-number-clause-read
returns-in_err-number-clause-read c = λ region blocks number pack salt check within salts checks is.
    let first = c.in_ok-region.ensures.read region (after_region blocks number pack (codes " " ++ salts_text salt check)) (omega (arith, within.region_most)) is in
    let second = c.in_ok-blocks.ensures.read blocks (after_blocks number pack (codes " " ++ salts_text salt check)) (omega (arith, within.blocks_most)) first.1 in
    absurd (c.in_err-number.ensures.read number (after_number pack (codes " " ++ salts_text salt check)) (omega (arith, within.number_most)) second.1)

pub returns-in_err-pack-clause-read : goal.returns-in_err-pack-clause-read
returns-in_err-pack-clause-read c = λ region blocks number pack salt check within salts checks is.
    let first = c.in_ok-region.ensures.read region (after_region blocks number pack (codes " " ++ salts_text salt check)) (omega (arith, within.region_most)) is in
    let second = c.in_ok-blocks.ensures.read blocks (after_blocks number pack (codes " " ++ salts_text salt check)) (omega (arith, within.blocks_most)) first.1 in
    let third = c.in_ok-number.ensures.read number (after_number pack (codes " " ++ salts_text salt check)) (omega (arith, within.number_most)) second.1 in
    absurd (c.in_err-pack.ensures.read pack (salts_text salt check) (omega (arith, within.pack_most)) third.1)

pub returns-in_err-salt-clause-read : goal.returns-in_err-salt-clause-read
returns-in_err-salt-clause-read c = λ region blocks number pack salt check within salts checks is.
    let first = c.in_ok-region.ensures.read region (after_region blocks number pack (codes " " ++ salts_text salt check)) (omega (arith, within.region_most)) is in
    let second = c.in_ok-blocks.ensures.read blocks (after_blocks number pack (codes " " ++ salts_text salt check)) (omega (arith, within.blocks_most)) first.1 in
    let third = c.in_ok-number.ensures.read number (after_number pack (codes " " ++ salts_text salt check)) (omega (arith, within.number_most)) second.1 in
    let last = c.in_ok-pack.ensures.read pack (salts_text salt check) (omega (arith, within.pack_most)) third.1 in
    absurd (c.in_err-salt.ensures.read salt (bytes_text check) salts last.1)

pub returns-in_err-check-clause-read : goal.returns-in_err-check-clause-read
returns-in_err-check-clause-read c = λ region blocks number pack salt check within salts checks is.
    let first = c.in_ok-region.ensures.read region (after_region blocks number pack (codes " " ++ salts_text salt check)) (omega (arith, within.region_most)) is in
    let second = c.in_ok-blocks.ensures.read blocks (after_blocks number pack (codes " " ++ salts_text salt check)) (omega (arith, within.blocks_most)) first.1 in
    let third = c.in_ok-number.ensures.read number (after_number pack (codes " " ++ salts_text salt check)) (omega (arith, within.number_most)) second.1 in
    let last = c.in_ok-pack.ensures.read pack (salts_text salt check) (omega (arith, within.pack_most)) third.1 in
    let drawn = c.in_ok-salt.ensures.read salt (bytes_text check) salts last.1 in
    absurd (cc (c.in_err-check.ensures.read check checks drawn.1))

pub returns-in_err-count-clause-read : goal.returns-in_err-count-clause-read
returns-in_err-count-clause-read c = λ region blocks number pack salt check within salts checks is.
    let first = c.in_ok-region.ensures.read region (after_region blocks number pack (codes " " ++ salts_text salt check)) (omega (arith, within.region_most)) is in
    let second = c.in_ok-blocks.ensures.read blocks (after_blocks number pack (codes " " ++ salts_text salt check)) (omega (arith, within.blocks_most)) first.1 in
    let third = c.in_ok-number.ensures.read number (after_number pack (codes " " ++ salts_text salt check)) (omega (arith, within.number_most)) second.1 in
    let last = c.in_ok-pack.ensures.read pack (salts_text salt check) (omega (arith, within.pack_most)) third.1 in
    absurd (c.in_err-count.ensures (marked_as first.0 second.0 third.0 last.0 within))

pub returns-clause-read : goal.returns-clause-read
returns-clause-read c = λ region blocks number pack salt check within salts checks is.
    let first = c.in_ok-region.ensures.read region (after_region blocks number pack (codes " " ++ salts_text salt check)) (omega (arith, within.region_most)) is in
    let second = c.in_ok-blocks.ensures.read blocks (after_blocks number pack (codes " " ++ salts_text salt check)) (omega (arith, within.blocks_most)) first.1 in
    let third = c.in_ok-number.ensures.read number (after_number pack (codes " " ++ salts_text salt check)) (omega (arith, within.number_most)) second.1 in
    let last = c.in_ok-pack.ensures.read pack (salts_text salt check) (omega (arith, within.pack_most)) third.1 in
    let count = c.in_ok-count.ensures.0 ∙ second.0 in
    let rows = c.in_ok-count.ensures.1 ∙ last.0 in
    let drawn = c.in_ok-salt.ensures.read salt (bytes_text check) salts last.1 in
    let value : c.in_ok-check.check ≡ check = cc (c.in_ok-check.ensures.read check checks drawn.1) in
    λ i. Some (Saved (first.0 i) (count i) (third.0 i) (rows i) (drawn.0 i) (value i))
