-- What a run asks of which no text was answered that the store failed, however it ended.
use Rattle.ob_headline.proofs.Words.{Access, Answer, ap, append-nil, append_assoc, arith, Base, Bool, buffered_blocks, by_shape, count_part, Cut, discard_at, drop, End, Err, failures, false, Gathering, goes_into, Heading, Headline, is_cut, is_joined, is_none, is_some, join_part, Joins, KeySet, Lawful, length, List, next, None, Ok, Option, Outside, Public, refl, Refusal, refusal_now, Report, script, Seen, Skeleton, skeleton, Some, Spelt, Stmt, Stored, subst, sym, take, take-append-drop, Text, trace, true, Whole, ℕ, [], ◌&&◌, ◌++◌, ◌+◌, ◌∙◌, ◌∷◌, ◌≡◌, ◌≤◌}
use Rattle.clap.specs.Words.{App}
use Rattle.ob_base.specs.declared.skeleton.Skeleton.TheVariants as K
use Rattle.ob_base.specs.declared.skeleton.Source.TheVariants.{Table as OneTable, Join}
use Rattle.ob_headline.proofs.BatchLemmas.{cut_fails}
use Rattle.ob_headline.proofs.FlatLemmas.{no_leaf}
use Rattle.ob_headline.proofs.RerunLemmas.{GathersIf, gathered_if, gathers_none, gathers_on, holds_none, none_before, not_cut, shows_plainly}
use Rattle.ob_headline.specs.Reruns.{ArePlain, AsksByKinds, IsPlain, Stated, gathered_behind, plainly, seen_plainly, shown_plainly, stated, stated_in}
use Rattle.ob_headline.specs.Settings.{IsTaken, IsTakenSaved, MeddleParses}
use Rattle.ob_headline.specs.Words.{Begins}
use Rattle.ob_headline.proofs.ServedAlone.{SeenAlone}
use Rattle.ob_headline.proofs.AloneRuns.{few_spelt, headline_alone}
use Rattle.ob_script.specs.Script.{whole_script, behind_count, with_table, extent_of, blocks_of, index_part_of, joined_extent, rows_width}
use Rattle.ob_script.specs.Trace.{Served as Entry}

-- nothing except how it ended
abbrev ended_so : End → Seen
ended_so end = record { k = None; plan = None; then = None; leaf = None; end = end }

-- ---- all accesses of a statement of which nothing is held don't depend on how it ended
behind_same : (pad : Option ℕ) (p : Public) (e f : End) (g : ℕ) (t : Stored ℕ) (ending : List Access) → behind_count pad p (ended_so e) g (extent_of t) ending ≡ behind_count pad p (ended_so f) g (extent_of t) ending
behind_same None p e f g t ending = refl
behind_same (Some pad) p e f g t ending = refl

joined_same : (pad : Option ℕ) (p : Public) (e f : End) (g : ℕ) (left right : Heading) (ending : List Access) → behind_count pad p (ended_so e) g (joined_extent p left right) ending ≡ behind_count pad p (ended_so f) g (joined_extent p left right) ending
joined_same None p e f g left right ending = refl
joined_same (Some pad) p e f g left right ending = refl

whole_same : (p : Public) (s : Skeleton) (e f : End) → whole_script p s (ended_so e) ≡ whole_script p s (ended_so f)
whole_same p (K.Rows (OneTable name) cs) e f =
    λ i. with_table name p (λ t.
    by_shape t.heading.shape (count_part (extent_of t).region (blocks_of p (extent_of t)) ++ behind_same p.pad p e f p.next_region t [] i) (index_part_of p None t))
whole_same p (K.Rows (Join a b on equals) cs) e f =
    λ i. with_table a p (λ left. with_table b p (λ right.
    join_part left.held right.held p.next_region (blocks_of p (extent_of left)) (blocks_of p (extent_of right)) (buffered_blocks p.pack p.buffer) (rows_width p (joined_extent p left.heading right.heading))
    ++ (count_part (joined_extent p left.heading right.heading).region (blocks_of p (joined_extent p left.heading right.heading))
    ++ joined_same p.pad p e f (p.next_region + 1) left.heading right.heading (discard_at p.next_region) i)))
whole_same p other e f = refl

-- ---- one statement asks a first part of what its early refusal says
pub begins_all : {A : Type 0} (xs : List A) → Begins xs xs
begins_all xs = record { rest = []; joined = sym (append-nil xs) }

begins_take : (n : ℕ) (xs : List Access) → Begins (take n xs) xs
begins_take n xs = record { rest = drop n xs; joined = sym (take-append-drop n xs) }

-- it was neither refused where it was cut off, nor served with another
not_refused : (p : Public) (m : ℕ) (stmt : Stmt) (here : Seen) (n : ℕ) (early : Bool) → here.end ≡ Cut n → is_some (refusal_now p m stmt) ≡ early → Lawful p m stmt here → early ≡ false
not_refused p m stmt here n true is now lawful = let static = lawful.static.1 now in absurd (cc (static, is))
not_refused p m stmt here n false is now lawful = refl

not_joined : (goes : Bool) (o : Option Refusal) → is_some o ≡ false → false ≡ (goes && is_none o) → goes ≡ false
not_joined false o none joins = refl
not_joined true None none joins = absurd (cc joins)
not_joined true (Some r) none joins = absurd (cc none)

begins_cut : (p : Public) (m : ℕ) (g : Option Gathering) (stmt : Stmt) (here : Seen) (n : ℕ) → here.end ≡ Cut n → IsPlain p stmt → Lawful p m stmt here → Joins p m g stmt here
    → Begins (script p (skeleton stmt) here) (script p (skeleton stmt) (plainly p m g stmt))
begins_cut p m g stmt here n is plain lawful joins =
    let held = holds_none p stmt here plain here.k here.plan here.then lawful.holds in
    let so : here ≡ ended_so (Cut n) = λ i. record { k = held.no_k i; plan = held.no_plan i; then = held.no_second i; leaf = no_leaf p (skeleton stmt) here.leaf here.end plain.0 lawful.leaf i; end = is i } in
    let not : is_some (refusal_now p m stmt) ≡ false = not_refused p m stmt here n (is_some (refusal_now p m stmt)) is refl lawful in
    let apart : goes_into p g (skeleton stmt) ≡ false = not_joined (goes_into p g (skeleton stmt)) (refusal_now p m stmt) not (sym (ap is_joined is) ∙ joins) in
    let whole : plainly p m g stmt ≡ ended_so Whole = λ i. seen_plainly (not i) (apart i) in
    subst (λ (x : Seen). Begins (script p (skeleton stmt) x) (script p (skeleton stmt) (plainly p m g stmt))) (sym so)
    (subst (λ (x : Seen). Begins (take n (whole_script p (skeleton stmt) (ended_so (Cut n)))) (script p (skeleton stmt) x)) (sym whole)
    (subst (λ (l : List Access). Begins (take n l) (whole_script p (skeleton stmt) (ended_so Whole))) (whole_same p (skeleton stmt) Whole (Cut n))
    (begins_take n (whole_script p (skeleton stmt) (ended_so Whole)))))

begins_uncut : (p : Public) (m : ℕ) (g : Option Gathering) (stmt : Stmt) (here : Seen) → is_cut here.end ≡ false → IsPlain p stmt → Lawful p m stmt here → Joins p m g stmt here
    → Begins (script p (skeleton stmt) here) (script p (skeleton stmt) (plainly p m g stmt))
begins_uncut p m g stmt here uncut plain lawful joins =
    subst (λ (x : Seen). Begins (script p (skeleton stmt) here) (script p (skeleton stmt) x)) (shows_plainly p m g stmt here lawful joins plain uncut)
    (begins_all (script p (skeleton stmt) here))

pub begins_by : (p : Public) (m : ℕ) (g : Option Gathering) (stmt : Stmt) (here : Seen) (end : End) → here.end ≡ end → IsPlain p stmt → Lawful p m stmt here → Joins p m g stmt here
    → Begins (script p (skeleton stmt) here) (script p (skeleton stmt) (plainly p m g stmt))
begins_by p m g stmt here (Cut n) is plain lawful joins = begins_cut p m g stmt here n is plain lawful joins
begins_by p m g stmt here other is plain lawful joins = begins_uncut p m g stmt here (ap is_cut is) plain lawful joins

-- ---- all statements do
-- the last one
pub begins_last : (p p1 p2 : Public) (here whole : List Access) (seen : List Entry) → seen ≡ [] → Begins here whole → Begins (here ++ trace p1 seen) (whole ++ trace p2 [])
begins_last p p1 p2 here whole seen none begins =
    subst (λ (xs : List Entry). Begins (here ++ trace p1 xs) (whole ++ trace p2 [])) (sym none)
    (record { rest = begins.rest; joined = append-nil whole ∙ begins.joined ∙ ap (λ (l : List Access). l ++ begins.rest) (sym (append-nil here)) })

pub begins_more : (one xs ys : List Access) → Begins xs ys → Begins (one ++ xs) (one ++ ys)
begins_more one xs ys begins =
    record { rest = begins.rest; joined = ap (λ (l : List Access). one ++ l) begins.joined ∙ sym (append_assoc one xs begins.rest) }

begins_plainly : (Leaves : Public → Stmt → Seen → Type 0) (spelt : List Spelt) (answers : List Answer) (batched apart : Bool) (p : Public) (m : ℕ) (g : Option Gathering) (seen : List Entry) → GathersIf batched p g
    → SeenAlone Leaves p m (gathered_if apart g) spelt answers seen → length spelt ≤ length answers + 1 → failures answers ≡ 0 → ArePlain p m g (stated batched apart spelt)
    → Begins (trace p seen) (trace p (shown_plainly p m g (stated batched apart spelt)))
unfolding SeenAlone ArePlain failures stated shown_plainly
begins_plainly Leaves [] answers batched apart p m g seen gathers lawful few none plain = subst (λ (xs : List Entry). Begins (trace p xs) []) (sym lawful) (begins_all [])
begins_plainly Leaves (Err at ∷ spelt) [] batched apart p m g seen gathers lawful few none plain =
    begins_plainly Leaves spelt [] batched batched p m g seen gathers (subst (λ (h : Option Gathering). SeenAlone Leaves p m h spelt [] seen) (none_before batched p g gathers) lawful) (omega (arith, few)) none plain
begins_plainly Leaves (Err at ∷ spelt) (one ∷ answers) batched apart p m g seen gathers lawful few none plain =
    begins_plainly Leaves spelt answers batched batched p m g seen gathers (subst (λ (h : Option Gathering). SeenAlone Leaves p m h spelt answers seen) (none_before batched p g gathers) lawful.1)
    (omega (arith, few)) (omega (arith, none)) plain
begins_plainly Leaves (Ok stmt ∷ spelt) [] batched apart p m g [] gathers lawful few none plain = absurd lawful
begins_plainly Leaves (Ok stmt ∷ spelt) (one ∷ answers) batched apart p m g [] gathers lawful few none plain = absurd lawful
begins_plainly Leaves (Ok stmt ∷ []) [] batched apart p m g (x ∷ seen) gathers lawful few none plain =
    let h = gathered_if apart g in
    let begins = begins_by p m h stmt x.seen x.seen.end refl plain.0 lawful.1 lawful.2.1 in
    begins_last p (next p x.skeleton x.seen) (next p (skeleton stmt) (plainly p m h stmt)) (script p x.skeleton x.seen) (script p (skeleton stmt) (plainly p m h stmt)) seen lawful.3
    (subst (λ (s : Skeleton). Begins (script p s x.seen) (script p (skeleton stmt) (plainly p m h stmt))) (sym lawful.0) begins)
begins_plainly Leaves (Ok stmt ∷ (y ∷ spelt)) [] batched apart p m g (x ∷ seen) gathers lawful few none plain = absurd (omega (arith, few))
begins_plainly Leaves (Ok stmt ∷ spelt) (one ∷ answers) batched apart p m g (x ∷ seen) gathers lawful few none plain =
    let h = gathered_if apart g in
    let t : Stated = record { stmt = stmt; apart = apart } in
    let uncut = not_cut (is_cut x.seen.end) one.outcome (λ cut. lawful.2.1.0 (cut_fails h x.seen.end cut)) (omega (arith, none)) in
    let here : x.seen ≡ plainly p m h stmt = shows_plainly p m h stmt x.seen lawful.1 lawful.2.3 plain.0 uncut in
    let same : x ≡ record { skeleton = skeleton stmt; seen = plainly p m h stmt } = λ i. record { skeleton = lawful.0 i; seen = here i } in
    let behind = subst (λ (z : Entry). ArePlain (next p z.skeleton z.seen) (m + length (script p z.skeleton z.seen)) (gathered_behind p m g t z.seen.end) (stated batched false spelt)) (sym same) plain.1 in
    let rest = begins_plainly Leaves spelt answers batched false (next p x.skeleton x.seen) (m + length (script p x.skeleton x.seen)) (gathered_behind p m g t x.seen.end) seen
    (gathers_on batched p m g t x.skeleton x.seen gathers) lawful.3 (omega (arith, few)) (omega (arith, none)) behind in
    subst (λ (z : Entry). Begins (script p x.skeleton x.seen ++ trace (next p x.skeleton x.seen) seen)
    (script p z.skeleton z.seen ++ trace (next p z.skeleton z.seen) (shown_plainly (next p z.skeleton z.seen) (m + length (script p z.skeleton z.seen)) (gathered_behind p m g t z.seen.end) (stated batched false spelt)))) same
    (begins_more (script p x.skeleton x.seen) _ _ rest)

-- ---- a run, by its headline
asks : {base : Base} {keys : List ℕ → KeySet} {Takes : Type 0} {tracing : Bool} {old new : Outside} {report : Report} (run : Headline base keys Takes tracing old new report) → AsksByKinds run
asks {base} {new = new} run alone none plain =
    let few : length run.story.spelt ≤ length run.story.answers + 1 = few_spelt alone run in
    let begins = begins_plainly _ run.story.spelt run.story.answers (is_some base.public.batch) false base.public base.count None (run.story.seen ++ run.story.last) (gathers_none base.public) (headline_alone alone run).lawful few none plain in
    subst (λ (l : List Access). Begins l (base.before ++ trace base.public (shown_plainly base.public base.count None (stated_in base.public run.story.spelt)))) (sym (headline_alone alone run).asked) (begins_more base.before _ _ begins)

pub asks_taken : (base : Base) (keys : List ℕ → KeySet) (app : App) (words : List Text) (tracing : Bool) (old new : Outside) (report : Report) (run : Headline base keys (IsTaken app words) tracing old new report) → AsksByKinds run
asks_taken base keys app words tracing old new report run = asks run

pub asks_meddled : (base : Base) (keys : List ℕ → KeySet) (words : List Text) (tracing : Bool) (old new : Outside) (report : Report) (run : Headline base keys (MeddleParses words) tracing old new report) → AsksByKinds run
asks_meddled base keys words tracing old new report run = asks run

pub asks_saved : (base : Base) (keys : List ℕ → KeySet) (words : List Text) (tracing : Bool) (old new : Outside) (report : Report) (run : Headline base keys (IsTakenSaved words) tracing old new report) → AsksByKinds run
asks_saved base keys words tracing old new report run = asks run
