-- Lines that are written one after the other.
use Rattle.std.proofs.Common.{◌≡◌, ℕ, suc, ◌+◌, ◌<◌, ◌≤◌, List, [], ◌∷◌, ◌++◌, length, get_or, drop, Option, refl, sym, ap, ◌∙◌, subst, append_assoc, append-nil, add-one, drop-cons}
use Rattle.std.specs.List.{concat}
use Rattle.std.specs.Io.KnownBytes.{Appends}
use Rattle.std.proofs.KnownBytes.{Appends-nil}
use Rattle.ob_gen.specs.SummaryText.{summary_lines, summary_text}
use Rattle.ob_gen.specs.declared.summary.Summary.{Summary}
use Rattle.std.proofs.Math.ListN.{drop_of_length-le}

-- a line more
pub lines_more : (lines : List (List ℕ)) (i : ℕ) (line text : List ℕ) → drop i lines ≡ line ∷ drop (i + 1) lines
    → concat lines ≡ text ++ concat (drop i lines) → concat lines ≡ (text ++ line) ++ concat (drop (i + 1) lines)
lines_more lines i line text at before = before ∙ ap (λ (l : List (List ℕ)). text ++ concat l) at ∙ sym (append_assoc text line _)

-- all of them
pub lines_done : (lines : List (List ℕ)) (i : ℕ) (text : List ℕ) → length lines ≤ i → concat lines ≡ text ++ concat (drop i lines) → text ≡ concat lines
lines_done lines i text end before = sym (before ∙ ap (λ (l : List (List ℕ)). text ++ concat l) (drop_of_length-le lines end) ∙ append-nil text)

pub lines_none : (w : Option (List ℕ)) (lines : List (List ℕ)) → (text : List ℕ) × Appends w w text × (concat lines ≡ text ++ concat lines)
lines_none w lines = ([], Appends-nil w, refl)

pub line_at : (lines : List (List ℕ)) (i : ℕ) (line bytes : List ℕ) → i < length lines → line ≡ get_or lines i line → bytes ≡ line → drop i lines ≡ bytes ∷ drop (i + 1) lines
line_at lines i line bytes within is same =
    rw add-one (subst (λ (x : List ℕ). drop i lines ≡ x ∷ drop (suc i) lines) (sym (same ∙ is)) (drop-cons lines i line within))

pub summary_is : (s : Summary) → concat (summary_lines s) ≡ summary_text s
unfolding summary_text
summary_is s = refl
