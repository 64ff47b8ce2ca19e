-- What runs ask of which no text was answered that the store failed, however they ended, SELECTs of rows included.
use Rattle.ob_headline.proofs.Words.{Access, Answer, ap, append_assoc, arith, asked_by, Bool, Err, failures, false, FliesNone, Gathering, if◌then◌else◌, inl, inr, is_cut, is_some, Joins, Lawful, length, List, next, None, Ok, Option, Public, refl, script, Seen, seen_by, Skeleton, skeleton, SomeRun, Spelt, Stmt, subst, sym, trace, true, ℕ, [], ◌++◌, ◌+◌, ◌∙◌, ◌∷◌, ◌≡◌, ◌≤◌}
use Rattle.ob_headline.proofs.BatchLemmas.{cut_fails}
use Rattle.ob_headline.proofs.KindLemmas.{begins_all, begins_by, begins_last, begins_more}
use Rattle.ob_headline.proofs.RerunLemmas.{GathersIf, gathered_if, gathers_none, gathers_on, none_before, not_cut, plain_unless, shows_plainly}
use Rattle.ob_headline.specs.Reruns.{AlikeSoFar, AsksAsShown, GoOnFromOne, OneBegins, Stated, failures_of, gathered_at, gathered_behind, plainly_at, shown, shown_as, shows_more, stated, stated_of}
use Rattle.ob_headline.specs.Words.{Begins}
use Rattle.ob_headline.proofs.ServedAlone.{SeenAlone}
use Rattle.ob_headline.proofs.AloneRuns.{few_spelt, run_alone}
use Rattle.ob_script.specs.Trace.{Served as Entry}

-- ---- first parts
nothing_begins : {A : Type 0} (xs : List A) → Begins [] xs
nothing_begins xs = record { rest = xs; joined = refl }

begins_through : {A : Type 0} (xs ys zs : List A) → Begins xs ys → Begins ys zs → Begins xs zs
begins_through xs ys zs a b = record { rest = a.rest ++ b.rest; joined = b.joined ∙ ap (λ l. l ++ b.rest) a.joined ∙ append_assoc xs a.rest b.rest }

-- of two first parts of one list one is a first part of the other
both_begin : (xs ys zs : List Access) → Begins xs zs → Begins ys zs → OneBegins xs ys
both_begin [] ys zs a b = inl (nothing_begins ys)
both_begin (x ∷ xs) [] zs a b = inr (nothing_begins (x ∷ xs))
both_begin (x ∷ xs) (y ∷ ys) [] a b = absurd (cc a.joined)
both_begin (x ∷ xs) (y ∷ ys) (z ∷ zs) a b =
    elim (both_begin xs ys zs (record { rest = a.rest; joined = cc a.joined }) (record { rest = b.rest; joined = cc b.joined })) [
      | inl begins ↦ inl (record { rest = begins.rest; joined = cc (begins.joined, a.joined, b.joined) })
      | inr begins ↦ inr (record { rest = begins.rest; joined = cc (begins.joined, a.joined, b.joined) })
    ]

-- ---- one statement
module _ (p : Public) (m : ℕ) (g : Option Gathering) (t : Stated) (here : Seen) (lawful : Lawful p m t.stmt here) (joins : Joins p m (gathered_at g t) t.stmt here) where
  begins_if : (more : Bool) → shows_more p t.stmt ≡ more → Begins (script p (skeleton t.stmt) here) (script p (skeleton t.stmt) (if more then here else plainly_at p m g t))
  begins_if true is = begins_all (script p (skeleton t.stmt) here)
  begins_if false is = begins_by p m (gathered_at g t) t.stmt here here.end refl (plain_unless p t.stmt is) lawful joins

  begins_as : Begins (script p (skeleton t.stmt) here) (script p (skeleton t.stmt) (shown_as p m g t here).seen)
  begins_as = begins_if (shows_more p t.stmt) refl

  same_if : (more : Bool) → shows_more p t.stmt ≡ more → is_cut here.end ≡ false → here ≡ (if more then here else plainly_at p m g t)
  same_if true is uncut = refl
  same_if false is uncut = shows_plainly p m (gathered_at g t) t.stmt here lawful joins (plain_unless p t.stmt is) uncut

  same_as : is_cut here.end ≡ false → here ≡ (shown_as p m g t here).seen
  same_as = same_if (shows_more p t.stmt) refl

-- ---- all statements
begins_shown : (Leaves : Public → Stmt → Seen → Type 0) (spelt : List Spelt) (answers : List Answer) (batched apart : Bool) (p : Public) (m : ℕ) (g : Option Gathering) (seen : List Entry) → GathersIf batched p g
    → SeenAlone Leaves p m (gathered_if apart g) spelt answers seen → length spelt ≤ length answers + 1 → failures answers ≡ 0 → Begins (trace p seen) (trace p (shown p m g (stated batched apart spelt) seen))
unfolding SeenAlone failures stated shown
begins_shown Leaves [] answers batched apart p m g seen gathers lawful few none = subst (λ (xs : List Entry). Begins (trace p xs) []) (sym lawful) (begins_all [])
begins_shown Leaves (Err at ∷ spelt) [] batched apart p m g seen gathers lawful few none =
    begins_shown Leaves spelt [] batched batched p m g seen gathers (subst (λ (h : Option Gathering). SeenAlone Leaves p m h spelt [] seen) (none_before batched p g gathers) lawful) (omega (arith, few)) none
begins_shown Leaves (Err at ∷ spelt) (one ∷ answers) batched apart p m g seen gathers lawful few none =
    begins_shown Leaves spelt answers batched batched p m g seen gathers (subst (λ (h : Option Gathering). SeenAlone Leaves p m h spelt answers seen) (none_before batched p g gathers) lawful.1)
    (omega (arith, few)) (omega (arith, none))
begins_shown Leaves (Ok stmt ∷ spelt) [] batched apart p m g [] gathers lawful few none = absurd lawful
begins_shown Leaves (Ok stmt ∷ spelt) (one ∷ answers) batched apart p m g [] gathers lawful few none = absurd lawful
begins_shown Leaves (Ok stmt ∷ []) [] batched apart p m g (x ∷ seen) gathers lawful few none =
    let t : Stated = record { stmt = stmt; apart = apart } in
    begins_last p (next p x.skeleton x.seen) (next p (skeleton stmt) (shown_as p m g t x.seen).seen) (script p x.skeleton x.seen) (script p (skeleton stmt) (shown_as p m g t x.seen).seen) seen lawful.3
    (subst (λ (s : Skeleton). Begins (script p s x.seen) (script p (skeleton stmt) (shown_as p m g t x.seen).seen)) (sym lawful.0) (begins_as p m g t x.seen lawful.1 lawful.2.1))
begins_shown Leaves (Ok stmt ∷ (y ∷ spelt)) [] batched apart p m g (x ∷ seen) gathers lawful few none = absurd (omega (arith, few))
begins_shown Leaves (Ok stmt ∷ spelt) (one ∷ answers) batched apart p m g (x ∷ seen) gathers lawful few none =
    let t : Stated = record { stmt = stmt; apart = apart } in
    let uncut = not_cut (is_cut x.seen.end) one.outcome (λ cut. lawful.2.1.0 (cut_fails (gathered_if apart g) x.seen.end cut)) (omega (arith, none)) in
    let here : x.seen ≡ (shown_as p m g t x.seen).seen = same_as p m g t x.seen lawful.1 lawful.2.3 uncut in
    let same : x ≡ shown_as p m g t x.seen = λ i. record { skeleton = lawful.0 i; seen = here i } in
    let rest = begins_shown Leaves spelt answers batched false (next p x.skeleton x.seen) (m + length (script p x.skeleton x.seen)) (gathered_behind p m g t x.seen.end) seen
    (gathers_on batched p m g t x.skeleton x.seen gathers) lawful.3 (omega (arith, few)) (omega (arith, none)) in
    subst (λ (z : Entry). Begins (script p x.skeleton x.seen ++ trace (next p x.skeleton x.seen) seen)
    (script p z.skeleton z.seen ++ trace (next p z.skeleton z.seen) (shown (next p z.skeleton z.seen) (m + length (script p z.skeleton z.seen)) (gathered_behind p m g t z.seen.end) (stated batched false spelt) seen))) same
    (begins_more (script p x.skeleton x.seen) _ _ rest)

-- ---- a run, and two
pub asks_shown : (one : SomeRun) → FliesNone one.base → failures_of one ≡ 0 → AsksAsShown one
asks_shown one alone none =
    let p : Public = one.base.public in
    let few : length one.run.story.spelt ≤ length one.run.story.answers + 1 = few_spelt alone one.run in
    let begins = begins_shown _ one.run.story.spelt one.run.story.answers (is_some p.batch) false p one.base.count None (seen_by one) (gathers_none p) (run_alone one alone).lawful few none in
    subst (λ (l : List Access). Begins l (one.base.before ++ trace p (shown p one.base.count None (stated_of one) (seen_by one)))) (sym (run_alone one alone).asked)
    (begins_more one.base.before _ _ begins)

shown_alike : (p : Public) (m : ℕ) (g h : Option Gathering) (ps : List Stated) (xs : List Entry) (qs : List Stated) (ys : List Entry) → AlikeSoFar p m g h ps xs qs ys → OneBegins (trace p (shown p m g ps xs)) (trace p (shown p m h qs ys))
unfolding AlikeSoFar shown
shown_alike p m g h [] xs qs ys alike = inl (nothing_begins _)
shown_alike p m g h (a ∷ ps) xs [] ys alike = inr (nothing_begins _)
shown_alike p m g h (a ∷ ps) [] (b ∷ qs) ys alike = inl (nothing_begins _)
shown_alike p m g h (a ∷ ps) (x ∷ xs) (b ∷ qs) [] alike = inr (nothing_begins _)
shown_alike p m g h (a ∷ ps) (x ∷ xs) (b ∷ qs) (y ∷ ys) alike =
    let one : Entry = shown_as p m g a x.seen in
    let g1 : Option Gathering = gathered_behind p m g a one.seen.end in
    let h1 : Option Gathering = gathered_behind p m h b (shown_as p m h b y.seen).seen.end in
    let there : List Access = trace (next p one.skeleton one.seen) (shown (next p one.skeleton one.seen) (m + length (script p one.skeleton one.seen)) g1 ps xs) in
    elim (shown_alike (next p one.skeleton one.seen) (m + length (script p one.skeleton one.seen)) g1 h1 ps xs qs ys alike.1) [
      | inl begins ↦ inl (subst (λ (z : Entry). Begins (script p one.skeleton one.seen ++ there)
          (script p z.skeleton z.seen ++ trace (next p z.skeleton z.seen) (shown (next p z.skeleton z.seen) (m + length (script p z.skeleton z.seen)) h1 qs ys))) alike.0
          (begins_more (script p one.skeleton one.seen) _ _ begins))
      | inr begins ↦ inr (subst (λ (z : Entry). Begins
          (script p z.skeleton z.seen ++ trace (next p z.skeleton z.seen) (shown (next p z.skeleton z.seen) (m + length (script p z.skeleton z.seen)) h1 qs ys)) (script p one.skeleton one.seen ++ there)) alike.0
          (begins_more (script p one.skeleton one.seen) _ _ begins))
    ]

pub asks_first_part : (a b : SomeRun) → FliesNone a.base → FliesNone b.base → GoOnFromOne a b → failures_of a ≡ 0 → failures_of b ≡ 0
    → AlikeSoFar a.base.public a.base.count None None (stated_of a) (seen_by a) (stated_of b) (seen_by b) → OneBegins (asked_by a) (asked_by b)
asks_first_part a b alone alone_too same none none_too alike =
    let p : Public = a.base.public in
    let here : List Access = trace p (shown p a.base.count None (stated_of a) (seen_by a)) in
    let there : List Access = trace p (shown p a.base.count None (stated_of b) (seen_by b)) in
    let one : Begins (asked_by a) (a.base.before ++ here) = asks_shown a alone none in
    let two : Begins (asked_by b) (a.base.before ++ there) =
    subst (λ (l : List Access). Begins (asked_by b) l) (λ i. sym same.before i ++ trace (sym same.public i) (shown (sym same.public i) (sym same.count i) None (stated_of b) (seen_by b))) (asks_shown b alone_too none_too) in
    elim (shown_alike p a.base.count None None (stated_of a) (seen_by a) (stated_of b) (seen_by b) alike) [
      | inl begins ↦ both_begin (asked_by a) (asked_by b) (a.base.before ++ there) (begins_through _ _ _ one (begins_more a.base.before _ _ begins)) two
      | inr begins ↦ both_begin (asked_by a) (asked_by b) (a.base.before ++ here) one (begins_through _ _ _ two (begins_more a.base.before _ _ begins))
    ]
