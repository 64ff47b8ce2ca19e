-- The texts of a session are the pieces that the cutting finds.
use Rattle.ob_headline.proofs.Words.{ap, append-nil, append_assoc, arith, Bool, drop, false, if◌then◌else◌, length, length-append, List, nat_tests, refl, subst, suc, sym, take, true, ℕ, [], ⊤, ◌&&◌, ◌++◌, ◌+◌, ◌-◌, ◌==◌, ◌∙◌, ◌∷◌, ◌≡◌}
use Rattle.std.proofs.Math.Seq.{drop-append-add, take-append-add}
use Rattle.std.proofs.lemmas.List.{drop-drop}
use Rattle.std.proofs.lemmas.List.Sums.{fold-append}
use Rattle.ob_headline.proofs.TextLemmas.{rest_of-over}
use Rattle.ob_headline.specs.Pieces.{BeginsWith}
use Rattle.ob_headline.specs.Texts.{has_none, is_over, reading_of, read_on, rest_after, texts_at, rest_of, texts_of}
use Rattle.ob_token.specs.Bytes.{is_blank}
use Rattle.ob_token.specs.Cutting.{blanks, cut, cut_from, ends_at, is_solid}
use Rattle.ob_token.specs.declared.cut.Mode.TheVariants.{Plain}
use Rattle.ob_token.specs.declared.cut.Piece.{Piece}
use Rattle.ob_token.specs.declared.cut.Piece.TheVariants.{Stmt, Empty}

read_more : (rest : List ℕ) (b : ℕ) → reading_of (rest ++ b ∷ []) ≡ read_on (reading_of rest) b
read_more rest b = fold-append read_on (Plain, false) rest (b ∷ [])

short_by : (over : Bool) (rest bs : List ℕ) → is_over rest ≡ over → is_over (rest_of rest bs) ≡ false → over ≡ false
short_by true rest bs e h = absurd (cc (ap is_over (rest_of-over rest bs e), e, h))
short_by false rest bs e h = refl

grows : (rest : List ℕ) (b : ℕ) → is_over rest ≡ false → ends_at (reading_of rest).0 b ≡ false → (has_none rest && is_blank b) ≡ false → rest_after rest b ≡ rest ++ b ∷ []
unfolding rest_after
grows rest b over ends blank = rw (over, ends, blank)

none_yet : (rest : List ℕ) (b : ℕ) → is_over rest ≡ false → ends_at (reading_of rest).0 b ≡ false → texts_at rest b ≡ []
unfolding texts_at
none_yet rest b over ends = rw (over, ends)

begins_anew : (rest : List ℕ) (b : ℕ) → is_over rest ≡ false → ends_at (reading_of rest).0 b ≡ true → rest_after rest b ≡ []
unfolding rest_after
begins_anew rest b over ends = rw (over, ends)

one_text : (rest : List ℕ) (b : ℕ) → is_over rest ≡ false → ends_at (reading_of rest).0 b ≡ true → is_solid (reading_of rest).0 (reading_of rest).1 ≡ true → texts_at rest b ≡ (rest ++ b ∷ []) ∷ []
unfolding texts_at
one_text rest b over ends solid = rw (over, ends, solid)

no_text : (rest : List ℕ) (b : ℕ) → is_over rest ≡ false → ends_at (reading_of rest).0 b ≡ true → is_solid (reading_of rest).0 (reading_of rest).1 ≡ false → texts_at rest b ≡ []
unfolding texts_at
no_text rest b over ends solid = rw (over, ends, solid)

-- the byte that comes is not passed over
abbrev IsKept : List ℕ → List ℕ → Type 0
IsKept rest [] = ⊤
IsKept rest (b ∷ bs) = (has_none rest && is_blank b) ≡ false

kept_after : (rest : List ℕ) (b : ℕ) (bs : List ℕ) → IsKept (rest ++ b ∷ []) bs
kept_after rest b [] = tt
kept_after [] b (c ∷ bs) = refl
kept_after (a ∷ rest) b (c ∷ bs) = refl

module _ (bytes rest bs : List ℕ) (b from at : ℕ) (here : drop from bytes ≡ rest ++ b ∷ bs) (is : at ≡ from + length rest) (over : is_over rest ≡ false) where
  behind : drop (suc at) bytes ≡ bs
  behind =
      let place : suc at ≡ from + (length rest + 1) = omega (arith, is) in
      ap (λ (n : ℕ). drop n bytes) place ∙ sym (drop-drop (length rest + 1) from bytes) ∙ ap (λ (l : List ℕ). drop (length rest + 1) l) here ∙ drop-append-add rest (b ∷ bs) 1

  text : take (suc at - from) (drop from bytes) ≡ rest ++ b ∷ []
  text =
      let size : suc at - from ≡ length rest + 1 = omega (arith, is) in
      ap (λ (n : ℕ). take n (drop from bytes)) size ∙ ap (λ (l : List ℕ). take (length rest + 1) l) here ∙ take-append-add rest (b ∷ bs) 1

  abbrev Begins : Piece → Type 0
  Begins piece = BeginsWith bytes (texts_of rest (b ∷ bs)) (rest_of rest (b ∷ bs)) piece

  abbrev piece_here : Piece
  piece_here = cut_from from at (reading_of rest).0 (reading_of rest).1 (b ∷ bs)

  rest_ends : ends_at (reading_of rest).0 b ≡ true → rest_of rest (b ∷ bs) ≡ rest_of [] (drop (suc at) bytes)
  unfolding rest_of
  rest_ends ends = ap (λ (r : List ℕ). rest_of r bs) (begins_anew rest b over ends) ∙ ap (λ (l : List ℕ). rest_of [] l) (sym behind)

  ends_text : ends_at (reading_of rest).0 b ≡ true → is_solid (reading_of rest).0 (reading_of rest).1 ≡ true → Begins piece_here
  unfolding cut_from texts_of
  ends_text ends solid =
      let piece : piece_here ≡ Stmt from (suc at) = rw (ends, solid) in
      let one : texts_of rest (b ∷ bs) ≡ (rest ++ b ∷ []) ∷ texts_of [] bs = (λ i. one_text rest b over ends solid i ++ texts_of (begins_anew rest b over ends i) bs) in
      let named : (rest ++ b ∷ []) ∷ texts_of [] bs ≡ take (suc at - from) (drop from bytes) ∷ texts_of [] (drop (suc at) bytes) = (λ i. sym text i ∷ texts_of [] (sym behind i)) in
      subst (λ (p : Piece). Begins p) (sym piece) (one ∙ named, rest_ends ends)

  ends_blank : ends_at (reading_of rest).0 b ≡ true → is_solid (reading_of rest).0 (reading_of rest).1 ≡ false → Begins piece_here
  unfolding cut_from texts_of
  ends_blank ends solid =
      let piece : piece_here ≡ Empty (suc at) = rw (ends, solid) in
      let none : texts_of rest (b ∷ bs) ≡ texts_of [] bs = (λ i. no_text rest b over ends solid i ++ texts_of (begins_anew rest b over ends i) bs) in
      subst (λ (p : Piece). Begins p) (sym piece) (none ∙ ap (λ (l : List ℕ). texts_of [] l) (sym behind), rest_ends ends)

  goes_on : ends_at (reading_of rest).0 b ≡ false → (has_none rest && is_blank b) ≡ false
      → BeginsWith bytes (texts_of (rest ++ b ∷ []) bs) (rest_of (rest ++ b ∷ []) bs) (cut_from from (suc at) (reading_of (rest ++ b ∷ [])).0 (reading_of (rest ++ b ∷ [])).1 bs)
      → Begins piece_here
  unfolding cut_from texts_of rest_of
  goes_on ends kept more =
      let piece : piece_here ≡ cut_from from (suc at) (reading_of (rest ++ b ∷ [])).0 (reading_of (rest ++ b ∷ [])).1 bs =
      (rw ends) ∙ (λ i. cut_from from (suc at) (sym (read_more rest b) i).0 (sym (read_more rest b) i).1 bs) in
      let texts : texts_of rest (b ∷ bs) ≡ texts_of (rest ++ b ∷ []) bs = (λ i. none_yet rest b over ends i ++ texts_of (grows rest b over ends kept i) bs) in
      let left : rest_of rest (b ∷ bs) ≡ rest_of (rest ++ b ∷ []) bs = ap (λ (r : List ℕ). rest_of r bs) (grows rest b over ends kept) in
      subst (λ (p : Piece). Begins p) (sym piece)
      (subst (λ (ts : List (List ℕ)). BeginsWith bytes ts (rest_of rest (b ∷ bs)) (cut_from from (suc at) (reading_of (rest ++ b ∷ [])).0 (reading_of (rest ++ b ∷ [])).1 bs)) (sym texts)
      (subst (λ (r : List ℕ). BeginsWith bytes (texts_of (rest ++ b ∷ []) bs) r (cut_from from (suc at) (reading_of (rest ++ b ∷ [])).0 (reading_of (rest ++ b ∷ [])).1 bs)) (sym left) more))

  by_case : (ends solid : Bool) → ends_at (reading_of rest).0 b ≡ ends → is_solid (reading_of rest).0 (reading_of rest).1 ≡ solid → (has_none rest && is_blank b) ≡ false
      → (ends_at (reading_of rest).0 b ≡ false
      → BeginsWith bytes (texts_of (rest ++ b ∷ []) bs) (rest_of (rest ++ b ∷ []) bs) (cut_from from (suc at) (reading_of (rest ++ b ∷ [])).0 (reading_of (rest ++ b ∷ [])).1 bs))
      → Begins piece_here
  by_case true true ends solid kept more = ends_text ends solid
  by_case true false ends solid kept more = ends_blank ends solid
  by_case false solid ends e kept more = goes_on ends kept (more ends)

begins : (bytes rest bs : List ℕ) (from at : ℕ) → drop from bytes ≡ rest ++ bs → at ≡ from + length rest → IsKept rest bs → is_over (rest_of rest bs) ≡ false
    → BeginsWith bytes (texts_of rest bs) (rest_of rest bs) (cut_from from at (reading_of rest).0 (reading_of rest).1 bs)
unfolding cut_from texts_of rest_of
begins bytes rest [] from at here is kept short = (refl, sym (here ∙ append-nil rest))
begins bytes rest (b ∷ bs) from at here is kept short =
    let over : is_over rest ≡ false = short_by (is_over rest) rest (b ∷ bs) refl short in
    by_case bytes rest bs b from at here is over (ends_at (reading_of rest).0 b) (is_solid (reading_of rest).0 (reading_of rest).1) refl refl kept
    (λ ends. begins bytes (rest ++ b ∷ []) bs from (suc at) (here ∙ sym (append_assoc rest (b ∷ []) bs)) (omega (arith, is, length-append rest (b ∷ []))) (kept_after rest b bs)
    (subst (λ (r : List ℕ). is_over (rest_of r bs) ≡ false) (grows rest b over ends kept) short))

-- blanks before a text are passed over
record Skipped (bytes after : List ℕ) : Type 0 where
  texts : texts_of [] bytes ≡ texts_of [] after
  left : rest_of [] bytes ≡ rest_of [] after
  kept : IsKept [] after

skips_at : (b : ℕ) (bs : List ℕ) (blank : Bool) → is_blank b ≡ blank → Skipped bs (drop (blanks bs) bs) → Skipped (b ∷ bs) (drop (blanks (b ∷ bs)) (b ∷ bs))
unfolding texts_of rest_of texts_at rest_after
skips_at b bs true e more =
    let no_end : (b == 59) ≡ false = grind (arith, nat_tests) in
    let front : drop (blanks (b ∷ bs)) (b ∷ bs) ≡ drop (blanks bs) bs = ap (λ (c : Bool). drop (if c then suc (blanks bs) else 0) (b ∷ bs)) e in
    let nothing : texts_at [] b ≡ [] = rw no_end in
    let empty : rest_after [] b ≡ [] = rw (no_end, e) in
    subst (λ (l : List ℕ). Skipped (b ∷ bs) l) (sym front) (record {
      texts = (λ i. nothing i ++ texts_of (empty i) bs) ∙ more.texts;
      left = ap (λ (r : List ℕ). rest_of r bs) empty ∙ more.left;
      kept = more.kept;
    })
skips_at b bs false e more =
    let front : drop (blanks (b ∷ bs)) (b ∷ bs) ≡ b ∷ bs = ap (λ (c : Bool). drop (if c then suc (blanks bs) else 0) (b ∷ bs)) e in
    subst (λ (l : List ℕ). Skipped (b ∷ bs) l) (sym front) (record { texts = refl; left = refl; kept = e })

skips : (bytes : List ℕ) → Skipped bytes (drop (blanks bytes) bytes)
skips [] = record { texts = refl; left = refl; kept = tt }
skips (b ∷ bs) = skips_at b bs (is_blank b) refl (skips bs)

pub pieces : (bytes : List ℕ) → is_over (rest_of [] bytes) ≡ false → BeginsWith bytes (texts_of [] bytes) (rest_of [] bytes) (cut bytes)
pieces bytes short =
    let n = blanks bytes in
    let front : Skipped bytes (drop n bytes) = skips bytes in
    let begin : BeginsWith bytes (texts_of [] (drop n bytes)) (rest_of [] (drop n bytes)) (cut bytes) =
    begins bytes [] (drop n bytes) n n refl (omega arith) front.kept (subst (λ (r : List ℕ). is_over r ≡ false) front.left short) in
    subst (λ (ts : List (List ℕ)). BeginsWith bytes ts (rest_of [] bytes) (cut bytes)) (sym front.texts)
    (subst (λ (r : List ℕ). BeginsWith bytes (texts_of [] (drop n bytes)) r (cut bytes)) (sym front.left) begin)
