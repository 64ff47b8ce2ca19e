-- While its rows are counted a SELECT asks the same, however many there are.
use Rattle.std.proofs.Common.{◌≡◌, ℕ, ◌<◌, ◌≤◌, ◌++◌, false, List, [], Some, Option, sym, ◌∙◌, ap, arith}
use Rattle.std.specs.Prelude.{slice_get, take, unwrap_or}
use Rattle.std.specs.Option.{option_map_or}
use Rattle.std.proofs.lemmas.Bool.{false≢true}
use Rattle.std.proofs.lemmas.List.{take-append-le}
use Rattle.ob_base.specs.declared.access.Access.{Access}
use Rattle.ob_base.specs.declared.access.Access.TheVariants.{Read}
use Rattle.ob_base.specs.declared.config.Public.{Public}
use Rattle.ob_base.specs.declared.schema.Shape.{Shape}
use Rattle.ob_base.specs.declared.schema.Shape.TheVariants.{Flat}
use Rattle.ob_base.specs.declared.seen.Seen.{Seen}
use Rattle.ob_base.specs.declared.seen.End.{End}
use Rattle.ob_base.specs.declared.seen.End.TheVariants.{Whole}
use Rattle.ob_base.specs.declared.skeleton.ColumnName.{ColumnName}
use Rattle.ob_base.specs.declared.skeleton.Skeleton.{Skeleton}
use Rattle.ob_base.specs.declared.skeleton.Skeleton.TheVariants.{Rows}
use Rattle.ob_base.specs.declared.skeleton.Source.TheVariants.{Table as OneTable}
use Rattle.ob_base.specs.Indexes.{by_shape}
use Rattle.ob_base.specs.Stored.{Stored, stored_at, stored_regions}
use Rattle.ob_script.specs.Parts.{count_part}
use Rattle.ob_script.specs.Script.{behind_count, blocks_of, extent_of, flat_script, index_part_of, script, table_script, until_end, with_table}
use Rattle.ob_script.specs.Trace.{Served}
use Rattle.ob_script.specs.Flights.{Flying, asked_at, prints}
use Rattle.ob_script.specs.FlightLaws.{AsksAlike}
use Rattle.ob_script.proofs.Eaches.{at_front}
use Rattle.ob_script.proofs.Lengths.{length-count_part}
use Rattle.ob_script.proofs.Places.{at_read}

-- a SELECT of the rows of a flat table that there is
module _ (p : Public) (name : List ℕ) (columns : Option (List ColumnName)) (t : Stored ℕ)
    (there : stored_at name (stored_regions p.tables) ≡ Some t) (flat : t.heading.shape ≡ Flat) where
  abbrev blocks : ℕ
  blocks = blocks_of p (extent_of t)

  -- if it comes to its end, in whatever region, it begins with the count
  begins : (g : ℕ) (seen : Seen) → seen.end ≡ Whole
      → script (record p { next_region = g }) (Rows (OneTable name) columns) seen ≡ count_part t.held blocks ++ behind_count p.pad (record p { next_region = g }) seen g (extent_of t) []
  begins g seen whole =
      let q : Public = record p { next_region = g } in
      ap (λ (end : End). until_end end (with_table name q (table_script q seen))) whole
      ∙ ap (λ (o : Option (Stored ℕ)). option_map_or (table_script q seen) o []) there
      ∙ ap (λ (shape : Shape). by_shape shape (flat_script q seen t) (index_part_of q seen.leaf t)) flat

  -- the reads of the count
  pub count_next : (g u : ℕ) (seen : Seen) → seen.end ≡ Whole → u < blocks_of p (extent_of t)
      → slice_get (script (record p { next_region = g }) (Rows (OneTable name) columns) seen) u ≡ Some (Read t.held u)
  count_next g u seen whole within =
      ap (λ (l : List Access). slice_get l u) (begins g seen whole)
      ∙ at_front (count_part t.held blocks) (behind_count p.pad (record p { next_region = g }) seen g (extent_of t) []) u (Read t.held u) (at_read t.held blocks u within)

  pub count_first : (g u : ℕ) (seen : Seen) → seen.end ≡ Whole → u ≤ blocks_of p (extent_of t)
      → take u (script (record p { next_region = g }) (Rows (OneTable name) columns) seen) ≡ take u (count_part t.held (blocks_of p (extent_of t)))
  count_first g u seen whole within =
      ap (take u) (begins g seen whole)
      ∙ take-append-le u (count_part t.held blocks) (behind_count p.pad (record p { next_region = g }) seen g (extent_of t) []) (let e = length-count_part t.held blocks in omega (arith, e, within))

  -- so one that still counts asked what it would have asked with any other count
  pub counts_alike : (f : Flying) (y : Served) → f.served.skeleton ≡ Rows (OneTable name) columns → y.skeleton ≡ Rows (OneTable name) columns
      → f.served.seen.end ≡ Whole → y.seen.end ≡ Whole → f.ended ≡ false → f.asked < blocks_of p (extent_of t) → AsksAlike p f y
  counts_alike f y mine other whole_f whole_y goes_on within = record {
    asked = λ g. first g f.served mine whole_f ∙ sym (first g y other whole_y);
    prints = λ g. ap (prints f.region) (next (unwrap_or f.region g) f.served mine whole_f ∙ sym (next (unwrap_or f.region g) y other whole_y));
    ended = λ ended. absurd (false≢true (sym goes_on ∙ ended));
  }
    where
      first : (g : ℕ) (x : Served) → x.skeleton ≡ Rows (OneTable name) columns → x.seen.end ≡ Whole → take f.asked (asked_at p g x) ≡ take f.asked (count_part t.held (blocks_of p (extent_of t)))
      first g x is whole =
          ap (λ (s : Skeleton). take f.asked (script (record p { next_region = g }) s x.seen)) is ∙ count_first g f.asked x.seen whole (omega (arith, within))

      next : (g : ℕ) (x : Served) → x.skeleton ≡ Rows (OneTable name) columns → x.seen.end ≡ Whole → slice_get (asked_at p g x) f.asked ≡ Some (Read t.held f.asked)
      next g x is whole = ap (λ (s : Skeleton). slice_get (script (record p { next_region = g }) s x.seen) f.asked) is ∙ count_next g f.asked x.seen whole within

-- one of which the same is asked in the end asks the same on the way
pub whole_alike : (p : Public) (f : Flying) (y : Served) → ((g : ℕ) → asked_at p g f.served ≡ asked_at p g y) → f.ended ≡ false → AsksAlike p f y
whole_alike p f y same goes_on = record {
  asked = λ g. ap (take f.asked) (same g);
  prints = λ g. ap (λ (l : List Access). prints f.region (slice_get l f.asked)) (same (unwrap_or f.region g));
  ended = λ ended. absurd (false≢true (sym goes_on ∙ ended));
}
