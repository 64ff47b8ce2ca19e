use Rattle.std.proofs.Common.{◌≡◌, ◌∙◌, ◌∷◌, ◌++◌, ℕ, List, [], IsUtf8, ap, decimal, drop, subst, sym}
use Rattle.std.proofs.lemmas.Bool.{both_ways}
use Rattle.ob_mark.proofs.FirstParts.{is_first, rest_is, stripped}
use Rattle.ob_mark.proofs.MarkLemmas.{accepted, never_refused, utf8_number}
use Rattle.ob_file.proofs.FolderLemmas.{before, some_more}
use Rattle.ob_file.proofs.folder.region_in.Goals as goal

pub returns-in_err-rest-clause-found : goal.returns-in_err-rest-clause-found
returns-in_err-rest-clause-found c = λ region few is.
    let text = before c.args.name.now c.as_bytes.result.now c.args.first.now (46 ∷ decimal region) c.as_bytes.ensures.value is in
    absurd (both_ways _ c.in_err-rest.ensures.cases (is_first c.args.name.now c.as_bytes.result.now (46 ∷ decimal region) text))

pub returns-in_err-spelt-clause-found : goal.returns-in_err-spelt-clause-found
returns-in_err-spelt-clause-found c = λ region few is.
    let text = before c.args.name.now c.as_bytes.result.now c.args.first.now (46 ∷ decimal region) c.as_bytes.ensures.value is in
    let rest = c.in_ok-rest.ensures.cases.1 ∙ rest_is c.args.name.now c.as_bytes.result.now (46 ∷ decimal region) text in
    let digits : c.in_ok-digits.digits.now ≡ decimal region = c.in_ok-digits.ensures.cases.1 ∙ ap (drop 1) rest in
    absurd (never_refused c.from_utf8.result _ _ _ (sym c.in_err-spelt.was ∙ c.ok.ensures.value) c.from_utf8.ensures.cases (subst IsUtf8 (sym digits) (utf8_number region few)))

pub returns-clause-spelt : goal.returns-clause-spelt
returns-clause-spelt c =
    let rest = stripped c.args.name.now c.as_bytes.result.now c.in_ok-rest.rest.now c.in_ok-rest.ensures.cases.0 c.in_ok-rest.ensures.cases.1 in
    let digits = stripped c.in_ok-rest.rest.now (46 ∷ []) c.in_ok-digits.digits.now c.in_ok-digits.ensures.cases.0 c.in_ok-digits.ensures.cases.1 in
    let same = (accepted c.from_utf8.result _ _ c.in_ok-spelt.spelt (sym c.in_ok-spelt.was ∙ c.ok.ensures.value) c.from_utf8.ensures.cases).0 in
    let whole : c.args.name.now ≡ c.args.first.now ++ 46 ∷ c.in_ok-spelt.spelt.now =
    rest ∙ (λ i. c.as_bytes.ensures.value i ++ digits i) ∙ ap (λ (l : List ℕ). c.args.first.now ++ 46 ∷ l) (sym same) in
    some_more c.number_of.result _ _ c.number_of.ensures.spelt (λ region is. whole ∙ ap (λ (l : List ℕ). c.args.first.now ++ 46 ∷ l) is)

pub returns-clause-found : goal.returns-clause-found
returns-clause-found c = λ region few is.
    let text = before c.args.name.now c.as_bytes.result.now c.args.first.now (46 ∷ decimal region) c.as_bytes.ensures.value is in
    let rest = c.in_ok-rest.ensures.cases.1 ∙ rest_is c.args.name.now c.as_bytes.result.now (46 ∷ decimal region) text in
    let same = (accepted c.from_utf8.result _ _ c.in_ok-spelt.spelt (sym c.in_ok-spelt.was ∙ c.ok.ensures.value) c.from_utf8.ensures.cases).0 in
    c.number_of.ensures.read region few (same ∙ c.in_ok-digits.ensures.cases.1 ∙ ap (drop 1) rest)
