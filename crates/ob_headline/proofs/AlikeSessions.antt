-- Sessions of the model that differ in the order of their tables, in where these lie, in how many accesses were asked, and in
-- what is drawn: they answer alike, as long as no table is an index, and no statement comes too late.
use Rattle.ob_headline.proofs.Words.{after, after_all, after_room, Answer, AnswersIn, AnswersMeant, ap, AreAlike, AreFlat, arith, Bool, Broken, early_refusal, ended, Ending, Err, failures, false, Gathering, gathering_after, Heading, headings, headings-database, headings_of, if◌then◌else◌, is_full_now, is_some, IsSome, length, length-append, limits_of, List, map, nat_tests, next, None, Ok, Option, option_map_or, option_or, outcome_failures, plain, Public, refl, Refusal, script, Seen, seen_now, seen_or_cut, Served, served, Session, settle, Shape, skeleton, Some, Spelt, Static, Stmt, subst, sym, Tables, trace, true, Whole, ℕ, [], ⊤, ◌++◌, ◌+◌, ◌<◌, ◌^◌, ◌∙◌, ◌∷◌, ◌≡◌, ◌≤◌}
use Rattle.ob_base.specs.Labels.{column_label}
use Rattle.ob_base.specs.Schemas.{Columns}
use Rattle.ob_base.specs.declared.skeleton.NewColumn.{NewColumn}
use Rattle.ob_headline.proofs.BatchLemmas.{IsUncut}
use Rattle.ob_headline.proofs.InStep.{InStep, joins_step, keeps_step}
use Rattle.ob_headline.proofs.ServedAlone.{SeenAlone, AnswersAlone}
use Rattle.ob_headline.specs.Meaning.{AnswersAs}
use Rattle.ob_mean.proofs.FlatLemmas.{created_flat, makes_flat, no_access, seen_is, settle_is}
use Rattle.ob_mean.proofs.FlatSessions.{after_flat, room_flat}
use Rattle.ob_mean.specs.Batches.{inserts_into}
use Rattle.ob_mean.specs.Prints.{is_join, item_label, label_at, labels_of}
use Rattle.ob_mean.specs.Replay.{How, Alone, CutAfter, With, CutWith, IsCutOff, IsMember, head_of, rest_of}
use Rattle.ob_mean.specs.Settle.{settled}
use Rattle.ob_mean.specs.Step.{followed}
use Rattle.ob_mean.specs.Verdict.{Draws, database, is_late, refusal, seen, seen_started, verdict}
use Rattle.ob_mean.specs.declared.answer.Answer.{Answer as Meaning}
use Rattle.ob_sql.specs.declared.stmt.Stmt.TheVariants.{Create, Insert, Update, Delete, Drop as DropTable, SelectRows as RowsStmt, SelectTotals as TotalsStmt}
use Rattle.ob_verdict.proofs.AlikeHeadings.{SameHeadings, columns_same, headings_same, source_same}
use Rattle.ob_verdict.proofs.AlikeProof.{order_is_nothing}
use Rattle.ob_verdict.proofs.PlainSettings.{seen_same, settle_same, verdict_same}
use Rattle.ob_verdict.specs.Alike.{ActsAlike}

-- their tables are kept, so that none of them is an index
pub record SessionsAlike (s t : Session) : Type 0 where
  pub settings : plain s.public ≡ plain t.public
  pub kept : s.public.keep ≡ true
  pub tables : AreAlike s.tables t.tables
  pub flat : AreFlat (headings s.tables)
  pub flat_too : AreFlat (headings t.tables)
  pub here : InStep s
  pub there : InStep t

-- ---- what is drawn, which is nothing where tables are kept
module _ (d e : Draws) (p : Public) (m : ℕ) (ts : Tables) (flat : AreFlat (headings ts)) where
  undrawn_seen : (stmt : Stmt) → seen d p m ts stmt ≡ seen e p m ts stmt
  undrawn_seen stmt = seen_is p ts stmt flat d m ∙ sym (seen_is p ts stmt flat e m)

  -- a table is made of which nothing is drawn, or none is
  undrawn_made : (table : List ℕ) (columns : List NewColumn) (capacity : ℕ) (shape : Shape) → p.keep ≡ true
      → settle d p m ts (Create table columns capacity shape) ≡ settle e p m ts (Create table columns capacity shape)
  undrawn_made table columns capacity shape kept = go (early_refusal (is_late m) (limits_of p) (headings ts) stmt) refl
    where
      stmt : Stmt
      stmt = Create table columns capacity shape

      refuses : (o : Option Refusal) → early_refusal (is_late m) (limits_of p) (headings ts) stmt ≡ o → refusal p m ts stmt ≡ option_or (option_or o None) None
      refuses o early =
          let both : early_refusal (is_late m) (limits_of p) (headings (database ts)) stmt ≡ o = ap (λ (hs : List Heading). early_refusal (is_late m) (limits_of p) hs stmt) (headings-database ts) ∙ early in
          λ i. option_or (option_or (both i) None) None

      go : (o : Option Refusal) → early_refusal (is_late m) (limits_of p) (headings ts) stmt ≡ o → settle d p m ts stmt ≡ settle e p m ts stmt
      go None early =
          let flat_too = makes_flat (is_late m) (limits_of p) (headings ts) stmt kept early in
          settle_is p ts stmt flat d m
          ∙ ap (λ (us : Tables). followed (refusal p m ts stmt) us ts) (created_flat d p ts table columns capacity shape flat_too ∙ sym (created_flat e p ts table columns capacity shape flat_too))
          ∙ sym (settle_is p ts stmt flat e m)
      go (Some r) early =
          settle_is p ts stmt flat d m
          ∙ ap (λ (o : Option Refusal). followed o (settled d p ts stmt) ts) (refuses (Some r) early)
          ∙ sym (settle_is p ts stmt flat e m ∙ ap (λ (o : Option Refusal). followed o (settled e p ts stmt) ts) (refuses (Some r) early))

  undrawn_settle : (stmt : Stmt) → p.keep ≡ true → settle d p m ts stmt ≡ settle e p m ts stmt
  undrawn_settle (Create table columns capacity shape) kept = undrawn_made table columns capacity shape kept
  undrawn_settle (Insert table columns values) kept = settle_is p ts (Insert table columns values) flat d m ∙ sym (settle_is p ts (Insert table columns values) flat e m)
  undrawn_settle (Update table sets cond) kept = settle_is p ts (Update table sets cond) flat d m ∙ sym (settle_is p ts (Update table sets cond) flat e m)
  undrawn_settle (Delete table cond) kept = settle_is p ts (Delete table cond) flat d m ∙ sym (settle_is p ts (Delete table cond) flat e m)
  undrawn_settle (DropTable table) kept = settle_is p ts (DropTable table) flat d m ∙ sym (settle_is p ts (DropTable table) flat e m)
  undrawn_settle (RowsStmt q) kept = settle_is p ts (RowsStmt q) flat d m ∙ sym (settle_is p ts (RowsStmt q) flat e m)
  undrawn_settle (TotalsStmt q) kept = settle_is p ts (TotalsStmt q) flat d m ∙ sym (settle_is p ts (TotalsStmt q) flat e m)

-- ---- labels
labels_same : (hs gs : List Heading) → SameHeadings hs gs → (stmt : Stmt) → labels_of stmt hs ≡ labels_of stmt gs
labels_same hs gs same (RowsStmt q) =
    ap (λ (cs : Columns). option_map_or (map (label_at (is_join q.source) cs)) q.list (map (column_label (is_join q.source)) cs)) (source_same hs gs same q.source)
labels_same hs gs same (TotalsStmt q) = ap (λ (cs : Columns). map (item_label cs) q.items) (columns_same hs gs same q.table)
labels_same hs gs same other = refl

-- ---- one statement
insert_starts : (p : Public) (ts : Tables) (stmt : Stmt) → IsSome (inserts_into (skeleton stmt)) → (seen_started p ts stmt).end ≡ Whole
insert_starts p ts (Insert table columns values) inserts = refl
insert_starts p ts other inserts = absurd (cc inserts)

early : (m : ℕ) → m < 2 ^ 63 → is_late m ≡ false
early m few = grind (arith, nat_tests)

-- tables, and a session that has them in whichever order
pub record TablesAlike (ts : Tables) (t : Session) : Type 0 where
  pub tables : AreAlike ts t.tables
  pub flat : AreFlat (headings ts)
  pub flat_too : AreFlat (headings t.tables)
  pub there : InStep t

module _ (d : Draws) (p : Public) (m : ℕ) (ts : Tables) (t : Session) (alike : TablesAlike ts t) (settings : plain p ≡ plain t.public) (kept : p.keep ≡ true) (few : m < 2 ^ 63) (few_too : t.asked < 2 ^ 63) (stmt : Stmt) where
  settles_by : settle d p m ts stmt ≡ settle t.draws t.public t.asked ts stmt
  settles_by =
      undrawn_settle d t.draws p m ts alike.flat stmt kept
      ∙ settle_same t.draws p t.public settings m t.asked (early m few ∙ sym (early t.asked few_too)) ts stmt

  tables_by : AreAlike (settle d p m ts stmt) (settle t.draws t.public t.asked t.tables stmt)
  tables_by =
      subst (λ (us : Tables). AreAlike us (settle t.draws t.public t.asked t.tables stmt)) (sym settles_by)
      (order_is_nothing t.draws t.public t.asked ts t.tables stmt alike.tables).after

  -- they are alike after a statement
  pub settled_alike : TablesAlike (settle d p m ts stmt) (after Alone t stmt)
  settled_alike = record {
    tables = tables_by;
    flat = after_flat Alone (record { public = p; tables = ts; asked = m; draws = d }) stmt kept alike.flat;
    flat_too = after_flat Alone t stmt (sym (ap (λ (q : Public). q.keep) settings) ∙ kept) alike.flat_too;
    there = keeps_step t stmt alike.flat_too alike.there alike.tables.too;
  }

module _ (s t : Session) (alike : SessionsAlike s t) (few : s.asked < 2 ^ 63) (few_too : t.asked < 2 ^ 63) (stmt : Stmt) where
  late : is_late s.asked ≡ is_late t.asked
  late = early s.asked few ∙ sym (early t.asked few_too)

  acts : ActsAlike t.draws t.public t.asked s.tables t.tables stmt
  acts = order_is_nothing t.draws t.public t.asked s.tables t.tables stmt alike.tables

  answer_alike : verdict s.public s.asked s.tables stmt ≡ verdict t.public t.asked t.tables stmt
  answer_alike = verdict_same t.draws s.public t.public alike.settings s.asked t.asked late s.tables stmt ∙ acts.answer

  pub shows_alike : seen_now s stmt ≡ seen_now t stmt
  shows_alike =
      undrawn_seen s.draws t.draws s.public s.asked s.tables alike.flat stmt
      ∙ seen_same t.draws s.public t.public alike.settings s.asked t.asked late s.tables stmt ∙ acts.shows

  labels_alike : labels_of stmt (headings_of s.public.tables) ≡ labels_of stmt (headings_of t.public.tables)
  labels_alike =
      ap (labels_of stmt) (sym alike.here)
      ∙ labels_same (headings s.tables) (headings t.tables) (headings_same s.tables t.tables alike.tables.count alike.tables.found) stmt
      ∙ ap (labels_of stmt) alike.there

  pub answers_alike : (one : Answer) → AnswersMeant s stmt one → AnswersMeant t stmt one
  answers_alike one told =
      subst (λ (labels : List (List ℕ)). AnswersAs labels stmt (verdict t.public t.asked t.tables stmt) one) labels_alike
      (subst (λ (meaning : Meaning). AnswersAs (labels_of stmt (headings_of s.public.tables)) stmt meaning one) answer_alike told)

  steps_alike : TablesAlike (settle s.draws s.public s.asked s.tables stmt) (after Alone t stmt)
  steps_alike =
      settled_alike s.draws s.public s.asked s.tables t (record { tables = alike.tables; flat = alike.flat; flat_too = alike.flat_too; there = alike.there })
      alike.settings alike.kept few few_too stmt

  pub after_alike : SessionsAlike (after Alone s stmt) (after Alone t stmt)
  after_alike = record {
    settings = alike.settings;
    kept = alike.kept;
    tables = steps_alike.tables;
    flat = steps_alike.flat;
    flat_too = steps_alike.flat_too;
    here = keeps_step s stmt alike.flat alike.here alike.tables.apart;
    there = steps_alike.there;
  }

  -- ---- that is served with an INSERT before it
  -- then in both
  member_alike : IsMember s stmt → IsMember t stmt
  member_alike member = record {
    batched = sym (ap (λ (p : Public). is_some p.batch) alike.settings) ∙ member.batched;
    inserts = member.inserts;
    early = go (early_refusal (is_late t.asked) (limits_of t.public) (headings t.tables) stmt) refl;
    unkeyed = no_access t.tables stmt alike.flat_too;
  }
    where
      ends : (seen_now s stmt).end ≡ Whole
      ends =
          ap (λ (x : Seen). x.end) (seen_is s.public s.tables stmt alike.flat s.draws s.asked)
          ∙ ap (λ (o : Option Refusal). (if is_some o then ended Static else seen_started s.public s.tables stmt).end) member.early
          ∙ insert_starts s.public s.tables stmt member.inserts

      go : (o : Option Refusal) → early_refusal (is_late t.asked) (limits_of t.public) (headings t.tables) stmt ≡ o → early_refusal (is_late t.asked) (limits_of t.public) (headings t.tables) stmt ≡ None
      go None is = is
      go (Some r) is =
          let static : (seen_now t stmt).end ≡ Static =
          ap (λ (x : Seen). x.end) (seen_is t.public t.tables stmt alike.flat_too t.draws t.asked) ∙ ap (λ (o : Option Refusal). (if is_some o then ended Static else seen_started t.public t.tables stmt).end) is in
          let whole : Whole ≡ Static = sym ends ∙ ap (λ (x : Seen). x.end) shows_alike ∙ static in
          absurd (cc whole)

  pub joined_alike : IsMember s stmt → SessionsAlike (after With s stmt) (after With t stmt)
  joined_alike member = record {
    settings = alike.settings;
    kept = alike.kept;
    tables = steps_alike.tables;
    flat = steps_alike.flat;
    flat_too = steps_alike.flat_too;
    here = joins_step s stmt alike.flat alike.here member.inserts;
    there = joins_step t stmt alike.flat_too alike.there member.inserts;
  }

  -- or by itself in the other
  pub parted_alike : IsMember s stmt → SessionsAlike (after With s stmt) (after Alone t stmt)
  parted_alike member = record {
    settings = alike.settings;
    kept = alike.kept;
    tables = steps_alike.tables;
    flat = steps_alike.flat;
    flat_too = steps_alike.flat_too;
    here = joins_step s stmt alike.flat alike.here member.inserts;
    there = steps_alike.there;
  }

  -- ---- in either way, where the store doesn't fail
  cut_alike : (how : How) → IsUncut how → IsCutOff how s stmt → IsCutOff how t stmt
  cut_alike Alone uncut cut = tt
  cut_alike (CutAfter n) uncut cut = absurd uncut
  cut_alike With uncut cut = member_alike cut
  cut_alike CutWith uncut cut = absurd uncut

  told_alike : (how : How) (one : Answer) → IsUncut how → AnswersIn how s stmt one → AnswersIn how t stmt one
  told_alike Alone one uncut told = answers_alike one told
  told_alike (CutAfter n) one uncut told = absurd uncut
  told_alike With one uncut told = answers_alike one told
  told_alike CutWith one uncut told = absurd uncut

  seen_alike : (how : How) → IsUncut how → seen_or_cut how s stmt ≡ seen_or_cut how t stmt
  seen_alike Alone uncut = shows_alike
  seen_alike (CutAfter n) uncut = absurd uncut
  seen_alike With uncut = refl
  seen_alike CutWith uncut = absurd uncut

  behind_alike : (how : How) → IsUncut how → IsCutOff how s stmt → SessionsAlike (after how s stmt) (after how t stmt)
  behind_alike Alone uncut cut = after_alike
  behind_alike (CutAfter n) uncut cut = absurd uncut
  behind_alike With uncut cut = joined_alike cut
  behind_alike CutWith uncut cut = absurd uncut

-- ---- many texts
pub grows : (s : Session) (spelt : List Spelt) (broken : Broken) → s.asked ≤ (after_all s spelt broken).asked
grows s [] broken = omega arith
grows s (Ok stmt ∷ spelt) broken =
    let more = grows (after (head_of broken) s stmt) spelt (rest_of broken) in
    elim (is_full_now s stmt) as (λ (full : Bool). s.asked ≤ (if full then s else after_all (after (head_of broken) s stmt) spelt (rest_of broken)).asked)
    [ true ↦ omega arith | false ↦ omega (arith, more) ]
grows s (Err at ∷ spelt) broken = grows s spelt (rest_of broken)

pub keeps_plain : (s : Session) (spelt : List Spelt) (broken : Broken) → plain (after_all s spelt broken).public ≡ plain s.public
keeps_plain s [] broken = refl
keeps_plain s (Ok stmt ∷ spelt) broken =
    elim (is_full_now s stmt) as (λ (full : Bool). plain (if full then s else after_all (after (head_of broken) s stmt) spelt (rest_of broken)).public ≡ plain s.public)
    [ true ↦ refl | false ↦ keeps_plain (after (head_of broken) s stmt) spelt (rest_of broken) ]
keeps_plain s (Err at ∷ spelt) broken = keeps_plain s spelt (rest_of broken)

-- as each of these texts is served
abbrev pub hows_of : List Spelt → Broken → Broken
hows_of [] broken = []
hows_of (Ok stmt ∷ spelt) broken = head_of broken ∷ hows_of spelt (rest_of broken)
hows_of (Err at ∷ spelt) broken = Alone ∷ hows_of spelt (rest_of broken)

-- more texts ask no less
pub grows_on : (t : Session) (spelt : List Spelt) (broken : Broken) (more : List Spelt) (later : Broken) → (after_all t spelt (hows_of spelt broken)).asked ≤ (after_all t (spelt ++ more) (hows_of spelt broken ++ later)).asked
grows_on t [] broken more later = grows t more later
grows_on t (Ok stmt ∷ spelt) broken more later =
    let rest = grows_on (after (head_of broken) t stmt) spelt (rest_of broken) more later in
    elim (is_full_now t stmt) as (λ (full : Bool). (if full then t else after_all (after (head_of broken) t stmt) spelt (hows_of spelt (rest_of broken))).asked
    ≤ (if full then t else after_all (after (head_of broken) t stmt) (spelt ++ more) (hows_of spelt (rest_of broken) ++ later)).asked)
    [ true ↦ omega arith | false ↦ rest ]
grows_on t (Err at ∷ spelt) broken more later = grows_on t spelt (rest_of broken) more later

-- a statement that is answered otherwise than that the store failed was not cut off
pub uncut : (how : How) (s : Session) (stmt : Stmt) (one : Answer) → outcome_failures one.outcome ≡ 0 → AnswersIn how s stmt one → IsUncut how
uncut Alone s stmt one none told = tt
uncut (CutAfter n) s stmt one none told = let failed = ap outcome_failures told.outcome in absurd (omega (arith, failed, none))
uncut With s stmt one none told = tt
uncut CutWith s stmt one none told = let failed = ap outcome_failures told.outcome in absurd (omega (arith, failed, none))

-- after these texts a session is alike, and where more texts are answered after it, they are so after these
pub record GoesOn (s : Session) (spelt : List Spelt) (broken : Broken) (answers : List Answer) (seen : List Served) (t : Session) : Type 0 where
  pub alike : SessionsAlike (after_all s spelt broken) (after_all t spelt (hows_of spelt broken))
  pub along : (more : List Spelt) (later : Broken) → after_all t (spelt ++ more) (hows_of spelt broken ++ later) ≡ after_all (after_all t spelt (hows_of spelt broken)) more later
  pub on : (f : Ending) (more : List Spelt) (later : Broken) (others : List Answer) (behind : List Served) → AnswersAlone f (after_all t spelt (hows_of spelt broken)) more later others behind []
      → AnswersAlone f t (spelt ++ more) (hows_of spelt broken ++ later) (answers ++ others) (seen ++ behind) []

-- these texts, each of which was answered and none by the store's fault, are answered alike, and so are more after them
pub answers_on : (Leaves : Public → Stmt → Seen → Type 0) (g : Option Gathering) (e : Ending) (spelt : List Spelt) (s t : Session) (broken : Broken) (answers : List Answer) (seen : List Served) (part : List ℕ)
    → SessionsAlike s t → length answers ≡ length spelt → failures answers ≡ 0 → AnswersAlone e s spelt broken answers seen part → SeenAlone Leaves s.public s.asked g spelt answers seen
    → s.asked + length (trace s.public seen) < 2 ^ 63 → (after_all t spelt (hows_of spelt broken)).asked < 2 ^ 63 → GoesOn s spelt broken answers seen t
unfolding AnswersAlone SeenAlone failures
answers_on Leaves g e [] s t broken answers seen part alike each none told lawful few few_too = record {
  alike = alike;
  along = λ more later. refl;
  on = λ f more later others behind follows.
      subst (λ (a : List Answer). AnswersAlone f t more later (a ++ others) (seen ++ behind) []) (sym told.0)
      (subst (λ (x : List Served). AnswersAlone f t more later ([] ++ others) (x ++ behind) []) (sym lawful) follows);
}
answers_on Leaves g e (x ∷ spelt) s t broken [] seen part alike each none told lawful few few_too = absurd (omega (arith, each))
answers_on Leaves g e (Err at ∷ spelt) s t broken (one ∷ answers) seen part alike each none told lawful few few_too =
    let rest = answers_on Leaves None e spelt s t (rest_of broken) answers seen part alike (omega (arith, each)) (omega (arith, none)) told.1 lawful.1 few few_too in
    record {
      alike = rest.alike;
      along = rest.along;
      on = λ f more later others behind follows. (told.0, rest.on f more later others behind follows);
    }
answers_on Leaves g e (Ok stmt ∷ spelt) s t broken (one ∷ answers) [] part alike each none told lawful few few_too = absurd told
answers_on Leaves g e (Ok stmt ∷ spelt) s t broken (one ∷ answers) (x ∷ seen) part alike each none told lawful few few_too =
    let how : How = head_of broken in
    let hs : Broken = hows_of spelt (rest_of broken) in
    let whole = uncut how s stmt one (omega (arith, none)) told.2 in
    let entry : x ≡ served how s stmt = λ i. record { skeleton = lawful.0 i; seen = told.3 i } in
    let long = length-append (script s.public x.skeleton x.seen) (trace (next s.public x.skeleton x.seen) seen) in
    let soon : s.asked < 2 ^ 63 = omega (arith, few) in
    let here = after_room s stmt spelt broken (room_flat s stmt alike.flat) in
    let there = λ (xs : List Spelt) (hs : Broken). after_room t stmt xs (how ∷ hs) (room_flat t stmt alike.flat_too) in
    let few_behind : (after_all (after how t stmt) spelt hs).asked < 2 ^ 63 = subst (λ (u : Session). u.asked < 2 ^ 63) (there spelt hs) few_too in
    let grown = grows (after how t stmt) spelt hs in
    let soon_too : t.asked < 2 ^ 63 = omega (arith, few_behind, grown) in
    let few_all : s.asked + length (script s.public x.skeleton x.seen ++ trace (next s.public x.skeleton x.seen) seen) < 2 ^ 63 = few in
    let fewer : s.asked + length (script s.public x.skeleton x.seen) + length (trace (next s.public x.skeleton x.seen) seen) < 2 ^ 63 = omega (arith, few_all, long) in
    let rest =
    answers_on Leaves (gathering_after s.public s.asked g stmt (seen_or_cut how s stmt).end) e spelt (after how s stmt) (after how t stmt) (rest_of broken) answers seen part
    (behind_alike s t alike soon soon_too stmt how whole told.1) (omega (arith, each)) (omega (arith, none)) told.4
    (subst (λ (y : Served). SeenAlone Leaves (next s.public y.skeleton y.seen) (s.asked + length (script s.public y.skeleton y.seen)) (gathering_after s.public s.asked g stmt y.seen.end) spelt answers seen) entry lawful.3)
    (subst (λ (y : Served). s.asked + length (script s.public y.skeleton y.seen) + length (trace (next s.public y.skeleton y.seen) seen) < 2 ^ 63) entry fewer)
    few_behind in
    record {
      alike = subst (λ (u : Session). SessionsAlike u (after_all t (Ok stmt ∷ spelt) (how ∷ hs))) (sym here) (subst (λ (v : Session). SessionsAlike (after_all (after how s stmt) spelt (rest_of broken)) v) (sym (there spelt hs)) rest.alike);
      along = λ more later. there (spelt ++ more) (hs ++ later) ∙ rest.along more later ∙ ap (λ (v : Session). after_all v more later) (sym (there spelt hs));
      on = λ f more later others behind follows. (
        room_flat t stmt alike.flat_too,
        cut_alike s t alike soon soon_too stmt how whole told.1,
        told_alike s t alike soon soon_too stmt how one whole told.2,
        told.3 ∙ seen_alike s t alike soon soon_too stmt how whole,
        rest.on f more later others behind (subst (λ (v : Session). AnswersAlone f v more later others behind []) (there spelt hs) follows),
      );
    }

-- ---- without batches
-- each text is served by itself
abbrev pub AreAlone : Broken → Type 0
AreAlone [] = ⊤
AreAlone (how ∷ hows) = (how ≡ Alone) × AreAlone hows

pub alone_both : (hows later : Broken) → AreAlone hows → AreAlone later → AreAlone (hows ++ later)
alone_both [] later alone more = more
alone_both (how ∷ hows) later alone more = (alone.0, alone_both hows later alone.1 more)

alone_by : (how : How) (s : Session) (stmt : Stmt) → s.public.batch ≡ None → IsUncut how → IsCutOff how s stmt → how ≡ Alone
alone_by Alone s stmt none whole cut = refl
alone_by (CutAfter n) s stmt none whole cut = absurd whole
alone_by With s stmt none whole cut = let batched = cut.batched in absurd (cc (ap is_some none, batched))
alone_by CutWith s stmt none whole cut = absurd whole

pub are_alone : (e : Ending) (spelt : List Spelt) (s : Session) (broken : Broken) (answers : List Answer) (seen : List Served) (part : List ℕ) → s.public.batch ≡ None → length answers ≡ length spelt → failures answers ≡ 0
    → AnswersAlone e s spelt broken answers seen part → AreAlone (hows_of spelt broken)
unfolding AnswersAlone failures
are_alone e [] s broken answers seen part batchless each none told = tt
are_alone e (x ∷ spelt) s broken [] seen part batchless each none told = absurd (omega (arith, each))
are_alone e (Err at ∷ spelt) s broken (one ∷ answers) seen part batchless each none told = (refl, are_alone e spelt s (rest_of broken) answers seen part batchless (omega (arith, each)) (omega (arith, none)) told.1)
are_alone e (Ok stmt ∷ spelt) s broken (one ∷ answers) [] part batchless each none told = absurd told
are_alone e (Ok stmt ∷ spelt) s broken (one ∷ answers) (x ∷ seen) part batchless each none told = (
  alone_by (head_of broken) s stmt batchless (uncut (head_of broken) s stmt one (omega (arith, none)) told.2) told.1,
  are_alone e spelt (after (head_of broken) s stmt) (rest_of broken) answers seen part batchless (omega (arith, each)) (omega (arith, none)) told.4,
)

head_alone : (hows : Broken) → AreAlone hows → head_of hows ≡ Alone
head_alone [] alone = refl
head_alone (how ∷ hows) alone = alone.0

rest_alone : (hows : Broken) → AreAlone hows → AreAlone (rest_of hows)
rest_alone [] alone = tt
rest_alone (how ∷ hows) alone = alone.1

-- as if that weren't said
pub after_alone : (t : Session) (spelt : List Spelt) (hows : Broken) → AreAlone hows → after_all t spelt hows ≡ after_all t spelt []
after_alone t [] hows alone = refl
after_alone t (Err at ∷ spelt) hows alone = after_alone t spelt (rest_of hows) (rest_alone hows alone)
after_alone t (Ok stmt ∷ spelt) hows alone =
    ap (λ (how : How). if is_full_now t stmt then t else after_all (after how t stmt) spelt (rest_of hows)) (head_alone hows alone)
    ∙ ap (λ (u : Session). if is_full_now t stmt then t else u) (after_alone (after Alone t stmt) spelt (rest_of hows) (rest_alone hows alone))

pub answers_alone : (f : Ending) (t : Session) (spelt : List Spelt) (hows : Broken) (answers : List Answer) (seen : List Served) (part : List ℕ) → AreAlone hows → AnswersAlone f t spelt hows answers seen part → AnswersAlone f t spelt [] answers seen part
unfolding AnswersAlone
answers_alone f t [] hows answers seen part alone told = told
answers_alone f t (x ∷ spelt) hows [] seen part alone told = told
answers_alone f t (Err at ∷ spelt) hows (one ∷ answers) seen part alone told = (told.0, answers_alone f t spelt (rest_of hows) answers seen part (rest_alone hows alone) told.1)
answers_alone f t (Ok stmt ∷ spelt) hows (one ∷ answers) [] part alone told = absurd told
answers_alone f t (Ok stmt ∷ spelt) hows (one ∷ answers) (x ∷ seen) part alone told =
    let here = subst (λ (how : How). (is_full_now t stmt ≡ false) × IsCutOff how t stmt × AnswersIn how t stmt one × (x.seen ≡ seen_or_cut how t stmt) × AnswersAlone f (after how t stmt) spelt (rest_of hows) answers seen part) (head_alone hows alone) told in
    (here.0, here.1, here.2, here.3, answers_alone f (after Alone t stmt) spelt (rest_of hows) answers seen part (rest_alone hows alone) here.4)
