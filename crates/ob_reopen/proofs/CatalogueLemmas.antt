-- A catalogue is read table by table.
use Rattle.std.proofs.Common.{◌≡◌, ◌≢◌, inl, inr, ℕ, zero, suc, ◌+◌, ◌-◌, ◌<◌, ◌≤◌, List, [], ◌∷◌, ◌++◌, length, take, map, Some, refl, sym, ◌∙◌, ap, subst, arith, length-append}
use Rattle.std.specs.Prelude.{slice_get, slice_index_or}
use Rattle.std.proofs.lemmas.List.{take_at, take-append-le, take_all, take_more}
use Rattle.ob_reopen.specs.declared.closing.Closing.{Closing}
use Rattle.ob_reopen.specs.declared.listed.Listed.{Listed}
use Rattle.ob_reopen.specs.Limits.{GoesOn, AreListed, IsCatalogue}
use Rattle.ob_reopen.specs.Spelling.{table_text, head_text, catalogue_rows}
use Rattle.ob_reopen.specs.Openings.{IsRowAt, AddsRow}
use Rattle.ob_reopen.proofs.Lists.{got_either, got_some, took_more, mapped_at, map_added, length-mapped}

pub none_listed : (closing : Closing) → AreListed closing []
none_listed closing = record { each = λ i t is. absurd (cc is) }

pub one_listed : (closing : Closing) (listed : List Listed) (t : Listed) → AreListed closing listed → GoesOn closing listed t → AreListed closing (listed ++ t ∷ [])
one_listed closing listed t are on = record {
  each = λ i u is. elim (got_either listed t i u is) [
    | inl (below, at) ↦ subst (λ (l : List Listed). GoesOn closing l u) (sym (take-append-le i listed (t ∷ []) (omega (arith, below)))) (are.each i u at)
    | inr (end, same) ↦
        let front : listed ≡ take i (listed ++ t ∷ []) = sym (take_at listed (t ∷ []) i (sym end)) in
        subst (λ (l : List Listed). GoesOn closing l u) front (subst (GoesOn closing listed) (sym same) on)
  ];
}

-- what a row that was taken in leaves
pub added_listed : (closing : Closing) (place : ℕ) (bytes : List ℕ) (before after : List Listed) → AreListed closing before → AddsRow closing place bytes before after → AreListed closing after
added_listed closing zero bytes before after are adds = subst (AreListed closing) (sym adds.same) are
added_listed closing (suc p) bytes before after are adds = subst (AreListed closing) (sym adds.more) (one_listed closing before adds.table are adds.on)

pub added_count : (closing : Closing) (place : ℕ) (bytes : List ℕ) (before after : List Listed) → length before ≡ place - 1 → AddsRow closing place bytes before after → length after ≡ place
added_count closing zero bytes before after count adds = omega (arith, ap (λ (l : List Listed). length l) adds.same, count)
added_count closing (suc p) bytes before after count adds =
    omega (arith, ap (λ (l : List Listed). length l) adds.more, length-append before (adds.table ∷ []), count)

-- a row after the head that lists a table
pub adds_row : (closing : Closing) (place : ℕ) (bytes : List ℕ) (before after : List Listed) (t : Listed) → place ≢ 0 → GoesOn closing before t → bytes ≡ table_text t → after ≡ before ++ t ∷ []
    → ((u : Listed) → GoesOn closing before u → bytes ≡ table_text u → u ≡ t) → AddsRow closing place bytes before after
adds_row closing zero bytes before after t off on is more only = absurd (off refl)
adds_row closing (suc p) bytes before after t off on is more only = record { table = t; on = on; is = is; more = more; only = only }

-- ---- the rows of the closing, of which so many tables were read
abbrev pub texts : Closing → List Listed → List (List ℕ)
texts closing listed = head_text (closing.region + 1) (closing.blocks - 1) ∷ map table_text listed

pub length-texts : (closing : Closing) (listed : List Listed) → length (texts closing listed) ≡ length listed + 1
length-texts closing listed = let n = length-mapped table_text listed in omega (arith, n)

pub texts_are : (closing : Closing) (listed : List Listed) → length listed + 1 ≡ closing.blocks → texts closing listed ≡ catalogue_rows closing.region listed
texts_are closing listed count =
    let n : closing.blocks - 1 ≡ length listed = omega (arith, count) in
    ap (λ (k : ℕ). head_text (closing.region + 1) k ∷ map table_text listed) n

-- one row more is that of the tables so far
pub texts_more : (closing : Closing) (place : ℕ) (rows : List (List ℕ)) (before after : List Listed) → place < length rows → length before ≡ place - 1
    → take place rows ≡ take place (texts closing before) → AddsRow closing place (slice_index_or rows place []) before after
    → take (place + 1) rows ≡ take (place + 1) (texts closing after)
texts_more closing zero [] before after below count same adds = absurd (omega (arith, below))
texts_more closing zero (row ∷ rows) before after below count same adds = ap (λ (r : List ℕ). r ∷ []) adds.is
texts_more closing (suc p) rows before after below count same adds =
    let t = adds.table in
    let more = adds.more in
    let is = adds.is in
    let size : length (texts closing before) ≡ suc p = omega (arith, length-texts closing before, count) in
    let long : length (texts closing after) ≤ suc p + 1 = omega (arith, length-texts closing after, ap (λ (l : List Listed). length l) more, length-append before (t ∷ []), count) in
    let front : take (suc p) rows ≡ texts closing before = same ∙ take_all (suc p) (texts closing before) (omega (arith, size)) in
    let grown : texts closing after ≡ texts closing before ++ table_text t ∷ [] = ap (texts closing) more ∙ ap (λ (l : List (List ℕ)). head_text (closing.region + 1) (closing.blocks - 1) ∷ l) (map_added table_text before t) in
    take_more rows (suc p) [] below
    ∙ (λ i. front i ++ is i ∷ [])
    ∙ sym grown
    ∙ sym (take_all (suc p + 1) (texts closing after) long)

-- ---- where the rows are those of a catalogue
-- the table that a row after the head lists
pub record NextTable (closing : Closing) (rows : List (List ℕ)) (whole before : List Listed) (p : ℕ) : Type 0 where
  pub table : Listed
  pub got : slice_get whole p ≡ Some table
  pub on : GoesOn closing before table
  pub is : slice_index_or rows (suc p) [] ≡ table_text table

module _ (closing : Closing) (rows : List (List ℕ)) (whole : List Listed) (catalogue : IsCatalogue closing whole) (are : rows ≡ catalogue_rows closing.region whole) where
  -- each of them lists the next of its tables
  next_table : (p : ℕ) (before : List Listed) → suc p < closing.blocks → before ≡ take p whole → NextTable closing rows whole before p
  next_table p before below same =
      let at = got_some whole p (omega (arith, below, catalogue.count)) in
      record {
        table = at.0;
        got = at.1;
        on = subst (λ (l : List Listed). GoesOn closing l at.0) (sym same) (catalogue.are.each p at.0 at.1);
        is = ap (λ (l : List (List ℕ)). slice_index_or l (suc p) []) are ∙ mapped_at table_text whole p at.0 at.1;
      }

  before_first : (p : ℕ) (before : List Listed) → before ≡ take (suc p - 1) whole → before ≡ take p whole
  before_first p before same = let pre : suc p - 1 ≡ p = omega arith in same ∙ ap (λ (n : ℕ). take n whole) pre

  pub row_at : (place : ℕ) (before : List Listed) → place < closing.blocks → before ≡ take (place - 1) whole → IsRowAt closing before place (slice_index_or rows place [])
  row_at zero before below same =
      let n : length whole ≡ closing.blocks - 1 = omega (arith, catalogue.count) in
      ap (λ (l : List (List ℕ)). slice_index_or l 0 []) are ∙ ap (λ (k : ℕ). head_text (closing.region + 1) k) n
  row_at (suc p) before below same = let next = next_table p before below (before_first p before same) in (next.table, next.on, next.is)

  -- and so what was read so far are the first of its tables
  pub read_more : (place : ℕ) (before after : List Listed) → place < closing.blocks → before ≡ take (place - 1) whole → AddsRow closing place (slice_index_or rows place []) before after → after ≡ take place whole
  read_more zero before after below same adds = adds.same ∙ same
  read_more (suc p) before after below same adds =
      let first = before_first p before same in
      let next = next_table p before below first in
      let one : next.table ≡ adds.table = adds.only next.table next.on next.is in
      let up : suc p ≡ p + 1 = omega arith in
      adds.more ∙ (λ i. first i ++ sym one i ∷ []) ∙ sym (took_more whole p next.table next.got) ∙ ap (λ (n : ℕ). take n whole) (sym up)
