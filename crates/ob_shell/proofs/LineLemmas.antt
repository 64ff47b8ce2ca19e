-- Lines that are written one after the other, and where a sink lost one of them.
use Rattle.ob_shell.proofs.Words.{ap, append-nil, append_assoc, append_cancel_left, Appends, Appends-trans, closing_line, drop, Err, HasCause, inl, inr, length, List, None, Ok, Option, Outcome, Outputs, Outputs-after, Outputs-whole, printed, refl, Result, Rises, subst, sym, Tally, ℕ, [], ◌++◌, ◌+◌, ◌<◌, ◌∙◌, ◌∷◌, ◌≡◌, ◌≤◌}
use Rattle.std.specs.Prelude.{IsErr, OnErr, OnOk, get_or}
use Rattle.std.proofs.Common.{drop-cons, add-one}
use Rattle.std.proofs.Math.ListN.{drop_of_length-le}
use Rattle.ob_shell.proofs.WaitLemmas.{cut_twice}
use Rattle.ob_shell.specs.Lines.{BatchCut, LinesCut, line_answers}
use Rattle.ob_shell.specs.Tallies.{tally_after, tally_with}

abbrev pub lines : List Outcome → List ℕ
lines outcomes = printed (line_answers outcomes)

pub lines_nil : lines [] ≡ []
unfolding printed
lines_nil = refl

pub lines_cons : (o : Outcome) (outcomes : List Outcome) → lines (o ∷ outcomes) ≡ closing_line o ++ lines outcomes
unfolding printed
lines_cons o outcomes = refl

-- ---- one more
drop_at : (xs : List Outcome) (i : ℕ) (d : Outcome) → i < length xs → drop i xs ≡ get_or xs i d ∷ drop (i + 1) xs
drop_at xs i d within = rw add-one (drop-cons xs i d within)

pub lines_at : (xs : List Outcome) (i : ℕ) (d : Outcome) → i < length xs → lines (drop i xs) ≡ closing_line (get_or xs i d) ++ lines (drop (i + 1) xs)
lines_at xs i d within = ap lines (drop_at xs i d within) ∙ lines_cons (get_or xs i d) (drop (i + 1) xs)

pub lines_more : (xs : List Outcome) (i : ℕ) (d : Outcome) (line text all : List ℕ) → line ≡ closing_line (get_or xs i d) → i < length xs → all ≡ text ++ lines (drop i xs) → all ≡ (text ++ line) ++ lines (drop (i + 1) xs)
lines_more xs i d line text all l within e =
    e ∙ ap (λ (t : List ℕ). text ++ t) (lines_at xs i d within) ∙ sym (append_assoc text (closing_line (get_or xs i d)) (lines (drop (i + 1) xs)))
    ∙ ap (λ (t : List ℕ). (text ++ t) ++ lines (drop (i + 1) xs)) (sym l)

pub lines_done : (xs : List Outcome) (i : ℕ) (text all : List ℕ) → length xs ≤ i → all ≡ text ++ lines (drop i xs) → text ≡ all
lines_done xs i text all h e = sym (e ∙ ap (λ (t : List ℕ). text ++ t) (rw (drop_of_length-le xs h) lines_nil) ∙ append-nil text)

-- ---- counted
pub tally_at : (t : Tally) (xs : List Outcome) (i : ℕ) (d : Outcome) → i < length xs → tally_after t (line_answers (drop i xs)) ≡ tally_after (tally_with t (get_or xs i d) None) (line_answers (drop (i + 1) xs))
unfolding tally_after
tally_at t xs i d within = ap (λ (l : List Outcome). tally_after t (line_answers l)) (drop_at xs i d within)

pub tally_done : (t : Tally) (xs : List Outcome) (i : ℕ) → length xs ≤ i → tally_after t (line_answers (drop i xs)) ≡ t
unfolding tally_after
tally_done t xs i h = rw (drop_of_length-le xs h) refl

tally_first : (t : Tally) (o : Outcome) (outcomes : List Outcome) → tally_after t (line_answers (o ∷ outcomes)) ≡ tally_after (tally_with t o None) (line_answers outcomes)
unfolding tally_after
tally_first t o outcomes = refl

-- the first of a batch, and the others
pub counted_all : (t t1 t2 : Tally) (o : Outcome) (outcomes others : List Outcome) → t1 ≡ tally_with t o None → others ≡ outcomes → t2 ≡ tally_after t1 (line_answers others) → t2 ≡ tally_after t (line_answers (o ∷ outcomes))
counted_all t t1 t2 o outcomes others first same rest =
    rest ∙ ap (λ (l : List Outcome). tally_after t1 (line_answers l)) same ∙ ap (λ (u : Tally). tally_after u (line_answers outcomes)) first ∙ sym (tally_first t o outcomes)

-- ---- where one was lost
-- what was taken of lines is those before it, and a first part of it
record Within (outcomes : List Outcome) (grown : List ℕ) : Type 0 where
  done : List Outcome
  one : Outcome
  rest : List Outcome
  parts : outcomes ≡ done ++ one ∷ rest
  part : List ℕ
  lost : List ℕ
  grown_is : grown ≡ lines done ++ part
  line_is : closing_line one ≡ part ++ lost

within : (o : Outcome) (outcomes : List Outcome) (grown lost : List ℕ) → lines (o ∷ outcomes) ≡ grown ++ lost → Within (o ∷ outcomes) grown
within o [] grown lost is = record {
  done = [];
  one = o;
  rest = [];
  parts = refl;
  part = grown;
  lost = lost;
  grown_is = ap (λ (l : List ℕ). l ++ grown) (sym lines_nil);
  line_is = sym (append-nil (closing_line o)) ∙ ap (λ (l : List ℕ). closing_line o ++ l) (sym lines_nil) ∙ sym (lines_cons o []) ∙ is;
}
within o (u ∷ outcomes) grown lost is = elim (cut_twice (closing_line o) (lines (u ∷ outcomes)) grown lost (sym (lines_cons o (u ∷ outcomes)) ∙ is)) [
  | inl longer ↦
      let behind : lines (u ∷ outcomes) ≡ longer.0 ++ lost =
      append_cancel_left (closing_line o) (lines (u ∷ outcomes)) (longer.0 ++ lost)
      (sym (lines_cons o (u ∷ outcomes)) ∙ is ∙ ap (λ (l : List ℕ). l ++ lost) longer.1 ∙ append_assoc (closing_line o) longer.0 lost) in
      let there = within u outcomes longer.0 lost behind in
      record {
        done = o ∷ there.done;
        one = there.one;
        rest = there.rest;
        parts = ap (λ (l : List Outcome). o ∷ l) there.parts;
        part = there.part;
        lost = there.lost;
        grown_is =
            longer.1 ∙ ap (λ (l : List ℕ). closing_line o ++ l) there.grown_is ∙ sym (append_assoc (closing_line o) (lines there.done) there.part)
            ∙ ap (λ (l : List ℕ). l ++ there.part) (sym (lines_cons o there.done));
        line_is = there.line_is;
      }
  | inr shorter ↦ record {
    done = [];
    one = o;
    rest = u ∷ outcomes;
    parts = refl;
    part = grown;
    lost = shorter.0;
    grown_is = ap (λ (l : List ℕ). l ++ grown) (sym lines_nil);
    line_is = shorter.1;
  }
]

pub lines_cut : {w0 w1 : Option (List ℕ)} {F G : Type 0} (o : Outcome) (outcomes : List Outcome) → Outputs w0 w1 F (lines (o ∷ outcomes)) → G → LinesCut (o ∷ outcomes) w0 w1 G
lines_cut {w0 = w0} {w1 = w1} o outcomes out fault =
    let at = within o outcomes out.grown out.prefix.lost out.prefix.whole in
    let appends : Appends w0 w1 (lines at.done ++ at.part) = subst (λ (l : List ℕ). Appends w0 w1 l) at.grown_is out.appends in
    record {
      done = at.done;
      one = at.one;
      rest = at.rest;
      parts = at.parts;
      whole = record { after = at.part; appends = appends };
      cut = record {
        grown = lines at.done ++ at.part;
        appends = appends;
        prefix = record { lost = at.lost; whole = ap (λ (l : List ℕ). lines at.done ++ l) at.line_is ∙ sym (append_assoc (lines at.done) at.part at.lost) };
        all = inr fault;
      };
    }

-- the first was lost, or nothing of the others was written
first_cut : {w0 w1 : Option (List ℕ)} {F : Type 0} (o : Outcome) (outcomes : List Outcome) → Outputs w0 w1 F (closing_line o) → LinesCut (o ∷ outcomes) w0 w1 F
first_cut {w0 = w0} {w1 = w1} {F = F} o outcomes out = record {
  done = [];
  one = o;
  rest = outcomes;
  parts = refl;
  whole = record { after = out.grown; appends = subst (λ (l : List ℕ). Appends w0 w1 (l ++ out.grown)) (sym lines_nil) out.appends };
  cut = subst (λ (l : List ℕ). Outputs w0 w1 F (l ++ closing_line o)) (sym lines_nil) out;
}

-- the same where the first was lost, or a part of the trace after it was
pub first_lost : {w0 w1 t0 t1 : Option (List ℕ)} {out0 out1 : ℕ} {text : List ℕ} (o : Outcome) (outcomes : List Outcome) → Outputs w0 w1 (Rises out0 out1) (closing_line o) → Outputs t0 t1 (Unit {0}) text → BatchCut (o ∷ outcomes) w0 w1 t0 t1 text out0 out1
unfolding first_cut
first_lost o outcomes line traced = record { lines = first_cut o outcomes line; traced = traced; behind = inl refl }

-- ---- the first, and after it the others
module _ {A E : Type 0} (w0 w1 w2 : Option (List ℕ)) (o : Outcome) (outcomes : List Outcome) (first : Appends w0 w1 (closing_line o)) where
  pub all_lines : (result : Result A E) → OnOk result (Appends w1 w2 (lines outcomes)) → OnOk result (Appends w0 w2 (lines (o ∷ outcomes)))
  all_lines (Ok x) rest = subst (λ (l : List ℕ). Appends w0 w2 l) (sym (lines_cons o outcomes)) (Appends-trans _ _ _ _ _ first rest)
  all_lines (Err e) rest = tt

  pub batch_cut : (t0 t1 : Option (List ℕ)) (text : List ℕ) {out0 out1 out2 : ℕ} (result : Result A E) → Outputs w1 w2 (IsErr result) (lines outcomes) → Appends t0 t1 text → out1 ≡ out0 → HasCause out1 out2 result → OnErr result (BatchCut (o ∷ outcomes) w0 w2 t0 t1 text out0 out2)
  batch_cut t0 t1 text (Ok x) cut traced same cause = tt
  batch_cut t0 t1 text {out2 = out2} (Err e) cut traced same cause =
      let lost : Result A E = Err e in
      record {
        lines = lines_cut o outcomes (subst (λ (l : List ℕ). Outputs w0 w2 (IsErr lost) l) (sym (lines_cons o outcomes)) (Outputs-after (closing_line o) first cut)) (subst (λ (n : ℕ). Rises n out2) same cause.failed);
        traced = Outputs-whole _ _ (Unit {0}) _ traced;
        behind = inr traced;
      }
