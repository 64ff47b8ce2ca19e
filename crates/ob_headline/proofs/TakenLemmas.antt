-- What a sink took of answers of which it took a first part.
use Rattle.ob_headline.proofs.Words.{Answer, ap, append-nil, append_assoc, arith, cases_lt, drop, inl, inr, length, length-append, List, Option, Outputs, refl, subst, sym, take, take-append-drop, take-append-le, ℕ, [], ◌++◌, ◌<◌, ◌∙◌, ◌∷◌, ◌≡◌, ◌≤◌}
use Rattle.std.proofs.Math.Seq.{take-append_seam}
use Rattle.std.specs.Io.KnownBytes.{Appends}
use Rattle.ob_headline.specs.Words.{Took, printed}

-- after the answers that it took whole it took these bytes, or a part of the next answer, for this cause
abbrev pub LosesSo : (written0 written1 : Option (List ℕ)) → (Lost : Type 0) → (kept lost : List Answer) → (bytes : List ℕ) → Type 0
LosesSo w0 w1 Lost kept [] bytes = Outputs w0 w1 Lost (printed kept ++ bytes)
LosesSo w0 w1 Lost kept (one ∷ lost) bytes = Lost × Outputs w0 w1 Lost (printed kept ++ one.bytes)

pub record TakenSo (written0 written1 : Option (List ℕ)) (Lost : Type 0) (answers : List Answer) (bytes : List ℕ) : Type 0 where
  pub kept : List Answer
  pub lost : List Answer
  pub parts : answers ≡ kept ++ lost
  pub took : Took written0 written1 (printed kept)
  pub loses : LosesSo written0 written1 Lost kept lost bytes

printed_one : (kept : List Answer) (one : Answer) → printed (kept ++ one ∷ []) ≡ printed kept ++ one.bytes
unfolding printed
printed_one [] one = append-nil one.bytes
printed_one (x ∷ kept) one = ap (λ (l : List ℕ). x.bytes ++ l) (printed_one kept one) ∙ sym (append_assoc x.bytes (printed kept) one.bytes)

printed_both : (xs ys : List Answer) → printed (xs ++ ys) ≡ printed xs ++ printed ys
unfolding printed
printed_both [] ys = refl
printed_both (x ∷ xs) ys = ap (λ (l : List ℕ). x.bytes ++ l) (printed_both xs ys) ∙ sym (append_assoc x.bytes (printed xs) (printed ys))

-- the shorter of two first parts of a list is one of the longer
begins_longer : (xs ys g lost : List ℕ) → xs ++ ys ≡ g ++ lost → length xs ≤ length g → g ≡ xs ++ drop (length xs) g
begins_longer xs ys g lost is few =
    let there : take (length xs) (g ++ lost) ≡ take (length xs) g = take-append-le (length xs) g lost few in
    let same : xs ≡ take (length xs) g = sym (take-append_seam xs ys) ∙ ap (take (length xs)) is ∙ there in
    sym (take-append-drop (length xs) g) ∙ ap (λ (l : List ℕ). l ++ drop (length xs) g) (sym same)

same_behind : (xs ys zs : List ℕ) → xs ++ ys ≡ xs ++ zs → ys ≡ zs
same_behind [] ys zs is = is
same_behind (x ∷ xs) ys zs is = same_behind xs ys zs (cc is)

module _ (w0 w1 : Option (List ℕ)) (Lost : Type 0) (all : List Answer) (bytes : List ℕ) (out : Outputs w0 w1 Lost (printed all ++ bytes)) where
  -- it took the answers so far whole, and this after them
  record Goes (kept answers : List Answer) (g lost : List ℕ) : Type 0 where
    parts : all ≡ kept ++ answers
    grown : out.grown ≡ printed kept ++ g
    rest : printed answers ++ bytes ≡ g ++ lost

  took : (kept answers : List Answer) (g lost : List ℕ) → Goes kept answers g lost → Took w0 w1 (printed kept)
  took kept answers g lost goes = record { after = g; appends = subst (λ (l : List ℕ). Appends w0 w1 l) goes.grown out.appends }

  -- a part of the next answer was lost
  lost_in : (kept : List Answer) (one : Answer) (answers : List Answer) (g lost : List ℕ) → Goes kept (one ∷ answers) g lost → length g < length one.bytes → TakenSo w0 w1 Lost all bytes
  unfolding printed
  lost_in kept one answers g lost goes short =
      let whole : (one.bytes ++ printed answers) ++ bytes ≡ g ++ lost = goes.rest in
      let cut : one.bytes ≡ g ++ drop (length g) one.bytes = begins_longer g lost one.bytes (printed answers ++ bytes) (sym whole ∙ append_assoc one.bytes (printed answers) bytes) (omega (arith, short)) in
      let fails : Lost = elim out.all [
        | inl same ↦
            let long = ap length (sym goes.grown ∙ same ∙ ap (λ (xs : List Answer). printed xs ++ bytes) goes.parts ∙ ap (λ (l : List ℕ). l ++ bytes) (printed_both kept (one ∷ answers)) ∙ append_assoc (printed kept) (printed (one ∷ answers)) bytes) in
            absurd (omega (arith, short, long, length-append (printed kept) g, length-append (printed kept) ((one.bytes ++ printed answers) ++ bytes), length-append (one.bytes ++ printed answers) bytes, length-append one.bytes (printed answers)))
        | inr lost ↦ lost
      ] in
      record {
        kept = kept;
        lost = one ∷ answers;
        parts = goes.parts;
        took = took kept (one ∷ answers) g lost goes;
        loses = (
          fails,
          record {
            grown = out.grown;
            appends = out.appends;
            prefix = record {
              lost = drop (length g) one.bytes;
              whole = ap (λ (l : List ℕ). printed kept ++ l) cut ∙ sym (append_assoc (printed kept) g (drop (length g) one.bytes)) ∙ ap (λ (l : List ℕ). l ++ drop (length g) one.bytes) (sym goes.grown);
            };
            all = inr fails;
          },
        );
      }

  go : (kept answers : List Answer) (g lost : List ℕ) → Goes kept answers g lost → TakenSo w0 w1 Lost all bytes
  unfolding printed
  go kept [] g lost goes = record {
    kept = kept;
    lost = [];
    parts = goes.parts;
    took = took kept [] g lost goes;
    loses = subst (λ (xs : List Answer). Outputs w0 w1 Lost (printed xs ++ bytes)) (goes.parts ∙ append-nil kept) out;
  }
  go kept (one ∷ answers) g lost goes = elim (cases_lt (length g) (length one.bytes)) [
    | inl short ↦ lost_in kept one answers g lost goes short
    | inr whole ↦
        let rest : (one.bytes ++ printed answers) ++ bytes ≡ g ++ lost = goes.rest in
        let behind = drop (length one.bytes) g in
        let cut : g ≡ one.bytes ++ behind = begins_longer one.bytes (printed answers ++ bytes) g lost (sym (append_assoc one.bytes (printed answers) bytes) ∙ rest) whole in
        go (kept ++ one ∷ []) answers behind lost (record {
          parts = goes.parts ∙ sym (append_assoc kept (one ∷ []) answers);
          grown = goes.grown ∙ ap (λ (l : List ℕ). printed kept ++ l) cut ∙ sym (append_assoc (printed kept) one.bytes behind) ∙ ap (λ (l : List ℕ). l ++ behind) (sym (printed_one kept one));
          rest = same_behind one.bytes (printed answers ++ bytes) (behind ++ lost)
              (sym (append_assoc one.bytes (printed answers) bytes) ∙ rest ∙ ap (λ (l : List ℕ). l ++ lost) cut ∙ append_assoc one.bytes behind lost);
        })
  ]

  pub taken_answers : TakenSo w0 w1 Lost all bytes
  unfolding printed
  taken_answers = go [] all out.grown out.prefix.lost (record { parts = refl; grown = refl; rest = out.prefix.whole })
