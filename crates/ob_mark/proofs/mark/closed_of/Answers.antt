use Rattle.std.proofs.Common.{◌≡◌, ◌∙◌, Some, codes, arith}
use Rattle.ob_reopen.specs.declared.mark.Mark.TheVariants.{Closed}
use Rattle.ob_mark.proofs.MarkLemmas.{after_region, after_blocks, after_number, marked_as}
use Rattle.ob_mark.proofs.mark.closed_of.Goals as goal

pub returns-in_err-region-clause-read : goal.returns-in_err-region-clause-read
returns-in_err-region-clause-read c = λ region blocks number pack within is.
    absurd (c.in_err-region.ensures.read region (after_region blocks number pack (codes "\n")) (omega (arith, within.region_most)) is)

pub returns-in_err-blocks-clause-read : goal.returns-in_err-blocks-clause-read
returns-in_err-blocks-clause-read c = λ region blocks number pack within is.
    let first = c.in_ok-region.ensures.read region (after_region blocks number pack (codes "\n")) (omega (arith, within.region_most)) is in
    absurd (c.in_err-blocks.ensures.read blocks (after_blocks number pack (codes "\n")) (omega (arith, within.blocks_most)) first.1)

pub returns-in_err-number-clause-read : goal.returns-in_err-number-clause-read
returns-in_err-number-clause-read c = λ region blocks number pack within is.
    let first = c.in_ok-region.ensures.read region (after_region blocks number pack (codes "\n")) (omega (arith, within.region_most)) is in
    let second = c.in_ok-blocks.ensures.read blocks (after_blocks number pack (codes "\n")) (omega (arith, within.blocks_most)) first.1 in
    absurd (c.in_err-number.ensures.read number (after_number pack (codes "\n")) (omega (arith, within.number_most)) second.1)

pub returns-in_err-pack-clause-read : goal.returns-in_err-pack-clause-read
returns-in_err-pack-clause-read c = λ region blocks number pack within is.
    let first = c.in_ok-region.ensures.read region (after_region blocks number pack (codes "\n")) (omega (arith, within.region_most)) is in
    let second = c.in_ok-blocks.ensures.read blocks (after_blocks number pack (codes "\n")) (omega (arith, within.blocks_most)) first.1 in
    let third = c.in_ok-number.ensures.read number (after_number pack (codes "\n")) (omega (arith, within.number_most)) second.1 in
    absurd (cc (c.in_err-pack.ensures.read pack (omega (arith, within.pack_most)) third.1))

pub returns-in_err-count-clause-read : goal.returns-in_err-count-clause-read
returns-in_err-count-clause-read c = λ region blocks number pack within is.
    let first = c.in_ok-region.ensures.read region (after_region blocks number pack (codes "\n")) (omega (arith, within.region_most)) is in
    let second = c.in_ok-blocks.ensures.read blocks (after_blocks number pack (codes "\n")) (omega (arith, within.blocks_most)) first.1 in
    let third = c.in_ok-number.ensures.read number (after_number pack (codes "\n")) (omega (arith, within.number_most)) second.1 in
    let last : c.in_ok-pack.pack ≡ pack = cc (c.in_ok-pack.ensures.read pack (omega (arith, within.pack_most)) third.1) in
    absurd (c.in_err-count.ensures (marked_as first.0 second.0 third.0 last within))

pub returns-clause-read : goal.returns-clause-read
returns-clause-read c = λ region blocks number pack within is.
    let first = c.in_ok-region.ensures.read region (after_region blocks number pack (codes "\n")) (omega (arith, within.region_most)) is in
    let second = c.in_ok-blocks.ensures.read blocks (after_blocks number pack (codes "\n")) (omega (arith, within.blocks_most)) first.1 in
    let third = c.in_ok-number.ensures.read number (after_number pack (codes "\n")) (omega (arith, within.number_most)) second.1 in
    let last : c.in_ok-pack.pack ≡ pack = cc (c.in_ok-pack.ensures.read pack (omega (arith, within.pack_most)) third.1) in
    let count = c.in_ok-count.ensures.0 ∙ second.0 in
    let rows = c.in_ok-count.ensures.1 ∙ last in
    λ i. Some (Closed (first.0 i) (count i) (third.0 i) (rows i))
