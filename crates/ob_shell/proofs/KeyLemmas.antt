-- The first line among the bytes that were taken.
use Rattle.ob_shell.proofs.Words.{ap, append-nil, append_assoc, arith, Bool, Err, false, Fed, Fetch, Halt, inl, inr, IsAtEnd, KeyRead, length, length-append, List, None, Ok, Option, refl, Some, subst, sym, take, true, ℕ, [], ◌++◌, ◌+◌, ◌<◌, ◌||◌, ◌∙◌, ◌∷◌, ◌≡◌, ◌≤◌}
use Rattle.std.proofs.Common.{◌==◌, set, add-one}
use Rattle.std.proofs.Math.Seq.{take-suc-set}
use Rattle.std.proofs.lemmas.Grind.{common_steps}
use Rattle.std.specs.Result.{result_ok}
use Rattle.hex.specs.Hex.{decode_sized}
use Rattle.ob_headline.proofs.PromptLemmas.{length-after_line}
use Rattle.ob_headline.specs.KeyLine.{line_max, has_lf, first_line, after_line, without_cr, secret_of}
use Rattle.ob_shell.proofs.FeedLemmas.{Fed-then}
use Rattle.ob_shell.specs.Feeding.{FetchCause}
use Rattle.ob_shell.specs.LineRead.{KeyEnds, line_before_more, line_at_end}
use Rattle.ob_shell.specs.declared.feed.Halt.TheVariants.{SourceFault, InputLimit}
use Rattle.ob_shell.specs.declared.key.FirstLine.TheVariants.{Bad}

or_parts : (a b : Bool) → (a || b) ≡ false → (a ≡ false) × (b ≡ false)
or_parts true b h = (h, absurd (cc))
or_parts false b h = (refl, h)

pub first_line-lf : (line u : List ℕ) → has_lf line ≡ false → first_line (line ++ 10 ∷ u) ≡ line
unfolding has_lf first_line
first_line-lf [] u h = refl
first_line-lf (b ∷ bs) u h =
    let p = or_parts (b == 10) (has_lf bs) h in rw p.0 (ap (λ (l : List ℕ). b ∷ l) (first_line-lf bs u p.1))

pub after_line-lf : (line u : List ℕ) → has_lf line ≡ false → after_line (line ++ 10 ∷ u) ≡ u
unfolding has_lf after_line
after_line-lf [] u h = refl
after_line-lf (b ∷ bs) u h = let p = or_parts (b == 10) (has_lf bs) h in rw p.0 (after_line-lf bs u p.1)

pub first_line-none : (line : List ℕ) → has_lf line ≡ false → first_line line ≡ line
unfolding has_lf first_line
first_line-none [] h = refl
first_line-none (b ∷ bs) h = let p = or_parts (b == 10) (has_lf bs) h in rw p.0 (ap (λ (l : List ℕ). b ∷ l) (first_line-none bs p.1))

pub after_line-none : (line : List ℕ) → has_lf line ≡ false → after_line line ≡ []
unfolding has_lf after_line
after_line-none [] h = refl
after_line-none (b ∷ bs) h = let p = or_parts (b == 10) (has_lf bs) h in rw p.0 (after_line-none bs p.1)

pub after_line-skip : (line u : List ℕ) → has_lf line ≡ false → after_line (line ++ u) ≡ after_line u
unfolding has_lf after_line
after_line-skip [] u h = refl
after_line-skip (b ∷ bs) u h = let p = or_parts (b == 10) (has_lf bs) h in rw p.0 (after_line-skip bs u p.1)

pub first_line-long : (line u : List ℕ) → has_lf line ≡ false → length line ≤ length (first_line (line ++ u))
unfolding has_lf first_line
first_line-long [] u h = omega arith
first_line-long (b ∷ bs) u h =
    let p = or_parts (b == 10) (has_lf bs) h in
    let deep = first_line-long bs u p.1 in
    rw p.0 (omega (arith, deep))

pub has_lf-push : (line : List ℕ) (b : ℕ) → has_lf line ≡ false → (b ≡ 10 → ⊥) → has_lf (line ++ b ∷ []) ≡ false
unfolding has_lf
has_lf-push [] b h ne = grind arith
has_lf-push (x ∷ xs) b h ne = let p = or_parts (x == 10) (has_lf xs) h in rw p.0 (has_lf-push xs b p.1 ne)

pub has_lf-lf : (line u : List ℕ) → has_lf line ≡ false → has_lf (line ++ 10 ∷ u) ≡ true
unfolding has_lf
has_lf-lf [] u h = refl
has_lf-lf (x ∷ xs) u h = let p = or_parts (x == 10) (has_lf xs) h in rw p.0 (has_lf-lf xs u p.1)

-- a line past its limit is no secret
length-without_cr : (line : List ℕ) → length line ≤ length (without_cr line) + 1
length-without_cr line = grind (arith, common_steps)

sized_none : (d : List ℕ) → 65 ≤ length d → result_ok (decode_sized d 32) ≡ None
sized_none d h = grind arith

pub secret_of-long : (line : List ℕ) → line_max ≤ length line → secret_of line ≡ None
unfolding secret_of
secret_of-long line h = sized_none (without_cr line) (omega (arith, length-without_cr line))

pub has_lf-nil : has_lf [] ≡ false
unfolding has_lf
has_lf-nil = refl

pub line_grows : (line : List ℕ) (n b : ℕ) → n < length line → take (n + 1) (set line n b) ≡ take n line ++ (b ∷ [])
line_grows line n b h = rw add-one (take-suc-set line n b h)

key_ends_last : (taken : List ℕ) (new : Fetch) (left1 : Option (List ℕ)) (r : Option (List ℕ))
    → r ≡ secret_of (first_line taken) → after_line taken ≡ [] → IsAtEnd left1 → new.taken < new.limit → new.unread ≡ [] → KeyEnds taken new left1 (Ok (line_at_end r))
key_ends_last taken new left1 (Some key) e rest h below none = (sym e, rest, h, below, none)
key_ends_last taken new left1 None e rest h below none = (sym e, inr (inr h))

key_ends : (taken : List ℕ) (new : Fetch) (left1 : Option (List ℕ)) (r : Option (List ℕ))
    → r ≡ secret_of (first_line taken) → after_line taken ≡ new.unread → has_lf taken ≡ true → KeyEnds taken new left1 (Ok (line_before_more r))
key_ends taken new left1 (Some key) e rest h = (sym e, h, rest)
key_ends taken new left1 None e rest h = (sym e, inl h)

-- the input ended within the line
pub key_at_end : {a b c : Fetch} {l0 l1 l2 : Option (List ℕ)} {line : List ℕ} (r : Option (List ℕ))
    → Fed a b l0 l1 line → Fed b c l1 l2 [] → has_lf line ≡ false → c.unread ≡ [] → IsAtEnd l2 → c.taken < c.limit → r ≡ secret_of line → KeyRead a c l0 l2 (Ok (line_at_end r))
key_at_end {a = a} {c = c} {l0 = l0} {l2 = l2} {line = line} r p q no_lf none at_end below e =
    let all : line ++ c.unread ≡ line = rw none (append-nil line) in
    record {
      passed = line;
      fed = subst (λ (xs : List ℕ). Fed a c l0 l2 xs) (append-nil line) (Fed-then p q);
      ends =
          subst (λ (t : List ℕ). KeyEnds t c l2 (Ok (line_at_end r))) (sym all)
          (key_ends_last line c l2 r (e ∙ ap secret_of (sym (first_line-none line no_lf))) (after_line-none line no_lf) at_end below none);
      ahead = rw (all, after_line-none line no_lf) (omega arith);
    }

-- the line feed came
pub key_at_lf : {a b c : Fetch} {l0 l1 l2 : Option (List ℕ)} {line : List ℕ} (r : Option (List ℕ)) (x : ℕ)
    → Fed a b l0 l1 line → Fed b c l1 l2 (x ∷ []) → x ≡ 10 → has_lf line ≡ false → r ≡ secret_of line → KeyRead a c l0 l2 (Ok (line_before_more r))
key_at_lf {b = b} {c = c} {l1 = l1} {l2 = l2} {line = line} r x p q is no_lf e =
    let all : (line ++ 10 ∷ []) ++ c.unread ≡ line ++ (10 ∷ c.unread) = append_assoc line (10 ∷ []) c.unread in
    record {
      passed = line ++ 10 ∷ [];
      fed = Fed-then p (subst (λ (y : ℕ). Fed b c l1 l2 (y ∷ [])) is q);
      ends =
          subst (λ (t : List ℕ). KeyEnds t c l2 (Ok (line_before_more r))) (sym all)
          (key_ends _ c l2 r (e ∙ ap secret_of (sym (first_line-lf line c.unread no_lf))) (after_line-lf line c.unread no_lf)
          (has_lf-lf line c.unread no_lf));
      ahead = rw (all, after_line-lf line c.unread no_lf) (omega arith);
    }

-- the source failed within the line, or the input's limit came
pub none_unread : (f : Fetch) (l : Option (List ℕ)) (gave faults0 faults1 : ℕ) (halt : Halt) → FetchCause f l gave faults0 faults1 (Err halt) → f.unread ≡ []
none_unread f l gave faults0 faults1 SourceFault cause = cause.1
none_unread f l gave faults0 faults1 InputLimit cause = cause.1

pub key_halted : {a b c : Fetch} {l0 l1 l2 : Option (List ℕ)} {line : List ℕ} (halt : Halt)
    → Fed a b l0 l1 line → Fed b c l1 l2 [] → has_lf line ≡ false → length line < line_max → c.unread ≡ [] → KeyRead a c l0 l2 (Err halt)
key_halted {a = a} {c = c} {l0 = l0} {l2 = l2} {line = line} halt p q no_lf short none =
    let all : line ++ c.unread ≡ line = rw none (append-nil line) in
    record {
      passed = line;
      fed = subst (λ (xs : List ℕ). Fed a c l0 l2 xs) (append-nil line) (Fed-then p q);
      ends = (rw all no_lf, rw all short, none);
      ahead = rw (all, after_line-none line no_lf) (omega arith);
    }

-- the line grew past its limit
pub key_too_long : {a b : Fetch} {l0 l1 : Option (List ℕ)} {line : List ℕ}
    → Fed a b l0 l1 line → has_lf line ≡ false → line_max ≤ length line → KeyRead a b l0 l1 (Ok Bad)
key_too_long {b = b} {line = line} p no_lf long =
    let far = first_line-long line b.unread no_lf in
    record {
      passed = line;
      fed = p;
      ends = (secret_of-long _ (omega (arith, far)), inr (inl (omega (arith, length-append line b.unread))));
      ahead = rw (after_line-skip line b.unread no_lf) (length-after_line b.unread);
    }
