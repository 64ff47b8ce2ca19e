-- A session whose INSERTs are served together goes along with the same session one by one.
use Rattle.std.proofs.Common.{◌≡◌, ℕ, ◌+◌, ◌≤◌, ◌<◌, ◌^◌, Bool, true, false, List, [], ◌∷◌, ◌++◌, Option, Some, None, Ok, Err, refl, sym, ◌∙◌, ap, subst, cond, arith}
use Rattle.std.specs.Prelude.{bytes_eq, filter, not, ◌&&◌, if◌then◌else◌, ⊤}
use Rattle.std.specs.Option.{option_map, option_map_or}
use Rattle.std.proofs.lemmas.Bool.Decides.{nat_tests}
use Rattle.std.proofs.lemmas.List.{map_push}
use Rattle.ob_base.specs.declared.config.Public.{Public}
use Rattle.ob_base.specs.declared.refusal.Refusal.TheVariants.{Syntax}
use Rattle.ob_base.specs.declared.schema.Heading.{Heading}
use Rattle.ob_base.specs.declared.schema.Table.{Table}
use Rattle.ob_base.specs.declared.seen.End.{End}
use Rattle.ob_base.specs.declared.seen.End.TheVariants.{Static, Whole, AfterCount, Batched, Cut}
use Rattle.ob_base.specs.declared.seen.Seen.{Seen}
use Rattle.ob_base.specs.declared.skeleton.Skeleton.{Skeleton}
use Rattle.ob_base.specs.declared.skeleton.Skeleton.TheVariants.{Create as CreateSkeleton, Insert as InsertSkeleton, Update as UpdateSkeleton, Delete as DeleteSkeleton, Drop as DropSkeleton, Rows, Groups}
use Rattle.ob_base.specs.declared.skeleton.Source.TheVariants.{Table as OneTable, Join}
use Rattle.ob_base.specs.Schemas.{columns_of}
use Rattle.ob_base.specs.Stored.{headings_of}
use Rattle.ob_script.specs.Tables.{moved, tables_after, tables_then}
use Rattle.ob_script.specs.Trace.{next}
use Rattle.ob_sql.specs.declared.stmt.Stmt.{Stmt}
use Rattle.ob_sql.specs.Skeleton.{skeleton}
use Rattle.ob_mean.specs.declared.answer.Answer.{Answer}
use Rattle.ob_mean.specs.declared.answer.Answer.TheVariants.{Refused}
use Rattle.ob_mean.specs.Batches.{Gathering, and_one, begins_batch, begun_by, gathering_after, goes_into, inserts_into, is_cut, is_unrefused}
use Rattle.ob_mean.specs.Refusals.{is_index}
use Rattle.ob_mean.specs.Replay.{Alone, Broken, How, Session, Spelt, With, after, after_all, answer_or_cut, answers, draws_taken, drawn_by, has_index, head_of, how_now, hows, is_access, is_full_now, rest_of, seen_now, seen_or_cut}
use Rattle.ob_mean.specs.Settle.{settle}
use Rattle.ob_mean.specs.Verdict.{Tables, is_full, is_late, seen, verdict}
use Rattle.ob_mean.proofs.BatchLemmas.{begins, goes_in}
use Rattle.ob_mean.proofs.ReplayLemmas.{after_room, answers_room}
use Rattle.ob_verdict.proofs.MovingProof.{moves}
use Rattle.ob_verdict.proofs.PlainSettings.{full_same, plain, seen_same, settle_same, verdict_same}
use Rattle.ob_verdict.specs.OneByOne.{BatchesAnswerAlike}

-- ---- what is public of both: the settings, and the tables except for where they lie
record GoesAlong (p q : Public) : Type 0 where
  settings : plain p ≡ plain q
  headings : headings_of p.tables ≡ headings_of q.tables

module _ (name : List ℕ) where
  abbrev is_other : Heading → Bool
  is_other h = not (bytes_eq h.name name)

  headings_kept : (ts : List Table) → headings_of (filter (λ (t : Table). is_other t.heading) ts) ≡ filter is_other (headings_of ts)
  headings_kept [] = refl
  headings_kept (t ∷ ts) =
      elim (is_other t.heading) as (λ b. headings_of (cond b (t ∷ filter (λ (u : Table). is_other u.heading) ts) (filter (λ (u : Table). is_other u.heading) ts))
      ≡ cond b (t.heading ∷ filter is_other (headings_of ts)) (filter is_other (headings_of ts)))
      [ true ↦ ap (λ (hs : List Heading). t.heading ∷ hs) (headings_kept ts) | false ↦ headings_kept ts ]

headings_more : (ts : List Table) (t : Table) → headings_of (ts ++ t ∷ []) ≡ headings_of ts ++ t.heading ∷ []
headings_more ts t = map_push (λ (u : Table). u.heading) ts t

module _ (p q : Public) (along : GoesAlong p q) where
  index_along : (name : List ℕ) → has_index p name ≡ has_index q name
  index_along name = ap (λ (hs : List Heading). is_index hs name) along.headings

  drawn_along : (s : Skeleton) → drawn_by p s ≡ drawn_by q s
  drawn_along (InsertSkeleton table cs) = ap (λ (b : Bool). if b then 1 else 0) (index_along table)
  drawn_along (UpdateSkeleton table cs) = ap (λ (b : Bool). if b then 1 else 0) (index_along table)
  drawn_along (DeleteSkeleton table) = ap (λ (b : Bool). if b then 1 else 0) (index_along table)
  drawn_along (Rows (OneTable name) cs) = ap (λ (b : Bool). if b then 1 else 0) (index_along name)
  drawn_along other = refl

  taken_along : (s : Skeleton) (end : End) → draws_taken p s end ≡ draws_taken q s end
  taken_along s Static = refl
  taken_along s Batched = refl
  taken_along s other = drawn_along s

  moved_along : (name : List ℕ) → headings_of (moved name p.next_region p.tables) ≡ headings_of (moved name q.next_region q.tables)
  moved_along name = (moves name p.next_region p.tables).headings ∙ along.headings ∙ sym ((moves name q.next_region q.tables).headings)

  behind_along : (s : Skeleton) → headings_of (tables_after p s) ≡ headings_of (tables_after q s)
  behind_along (CreateSkeleton table cs n shape) =
      let h : Heading = record { name = table; schema = columns_of table cs; capacity = n; shape = shape } in
      headings_more p.tables (record { heading = h; region = p.next_region })
      ∙ ap (λ (hs : List Heading). hs ++ h ∷ []) along.headings
      ∙ sym (headings_more q.tables (record { heading = h; region = q.next_region }))
  behind_along (InsertSkeleton table cs) = moved_along table
  behind_along (UpdateSkeleton table cs) = moved_along table
  behind_along (DeleteSkeleton table) = moved_along table
  behind_along (DropSkeleton table) = headings_kept table p.tables ∙ ap (filter (is_other table)) along.headings ∙ sym (headings_kept table q.tables)
  behind_along (Rows source cs) = along.headings
  behind_along (Groups table cs key) = along.headings

  then_along : (s : Skeleton) (end : End) → headings_of (tables_then p s end) ≡ headings_of (tables_then q s end)
  then_along s Whole = behind_along s
  then_along s other = along.headings

  next_along : (s : Skeleton) (x : Seen) → GoesAlong (next p s x) (next q s x)
  next_along s x = record { settings = along.settings; headings = then_along s x.end }

-- ---- an INSERT leaves each heading, and where its table is flat it draws nothing
abbrev Names : List ℕ → Skeleton → Type 0
Names table s = inserts_into s ≡ Some table

still : (p : Public) (table : List ℕ) (s : Skeleton) (end : End) → Names table s → headings_of (tables_then p s end) ≡ headings_of p.tables
still p table (CreateSkeleton name cs n shape) Whole names = absurd (cc names)
still p table (InsertSkeleton name cs) Whole names = (moves name p.next_region p.tables).headings
still p table (UpdateSkeleton name cs) Whole names = absurd (cc names)
still p table (DeleteSkeleton name) Whole names = absurd (cc names)
still p table (DropSkeleton name) Whole names = absurd (cc names)
still p table (Rows source cs) Whole names = absurd (cc names)
still p table (Groups name cs key) Whole names = absurd (cc names)
still p table s other names = refl

drawn_none : (p : Public) (table : List ℕ) (s : Skeleton) → Names table s → has_index p table ≡ false → drawn_by p s ≡ 0
drawn_none p table (InsertSkeleton name cs) names flat =
    let same : name ≡ table = cc names in
    ap (λ (b : Bool). if b then 1 else 0) (ap (has_index p) same ∙ flat)
drawn_none p table other names flat = absurd (cc names)

taken_none : (p : Public) (table : List ℕ) (s : Skeleton) (end : End) → Names table s → has_index p table ≡ false → draws_taken p s end ≡ 0
taken_none p table s Static names flat = refl
taken_none p table s Batched names flat = refl
taken_none p table s other names flat = drawn_none p table s names flat

-- ---- what is gathered goes into a flat table
abbrev IsFlatIn : Public → Option Gathering → Type 0
IsFlatIn p None = ⊤
IsFlatIn p (Some g) = has_index p g.table ≡ false

module _ (p : Public) (m : ℕ) (g : Option Gathering) (stmt : Stmt) (x : Seen) (flat : IsFlatIn p g) where
  abbrev behind : Public
  behind = next p (skeleton stmt) x

  stays_flat : (table : List ℕ) → Names table (skeleton stmt) → has_index p table ≡ false → has_index behind table ≡ false
  stays_flat table names is = ap (λ (hs : List Heading). is_index hs table) (still p table (skeleton stmt) x.end names) ∙ is

  one_more : (h : Option Gathering) → IsFlatIn p h → goes_into p h (skeleton stmt) ≡ true → IsFlatIn behind (option_map and_one h)
  one_more None is into = tt
  one_more (Some h) is into =
      let goes = goes_in p (Some h) (skeleton stmt) into in
      let same : h.table ≡ goes.gathering.table = ap (λ (o : Option Gathering). option_map_or (λ (j : Gathering). j.table) o []) goes.is in
      stays_flat h.table (goes.same ∙ ap Some (sym same)) is

  first : begins_batch p m stmt ≡ true → IsFlatIn behind (begun_by (skeleton stmt) x.end)
  first is = of_table (inserts_into (skeleton stmt)) refl
    where
      access_is : (s : Skeleton) (table : List ℕ) → Names table s → is_access p s ≡ has_index p table
      access_is (CreateSkeleton name cs n shape) table names = absurd (cc names)
      access_is (InsertSkeleton name cs) table names = let same : name ≡ table = cc names in ap (has_index p) same
      access_is (UpdateSkeleton name cs) table names = absurd (cc names)
      access_is (DeleteSkeleton name) table names = absurd (cc names)
      access_is (DropSkeleton name) table names = absurd (cc names)
      access_is (Rows source cs) table names = absurd (cc names)
      access_is (Groups name cs key) table names = absurd (cc names)

      of_table : (o : Option (List ℕ)) → inserts_into (skeleton stmt) ≡ o → IsFlatIn behind (option_map (λ (table : List ℕ). record { table = table; count = 1; failed = is_cut x.end }) o)
      of_table None names = tt
      of_table (Some table) names = stays_flat table names (sym (access_is (skeleton stmt) table names) ∙ (begins p m stmt is).flat)

  gathers_flat : IsFlatIn behind (gathering_after p m g stmt x.end)
  gathers_flat = into (goes_into p g (skeleton stmt)) refl
    where
      begun : (b : Bool) → begins_batch p m stmt ≡ b → IsFlatIn behind (if b then begun_by (skeleton stmt) x.end else None)
      begun true is = first is
      begun false is = tt

      into : (b : Bool) → goes_into p g (skeleton stmt) ≡ b → IsFlatIn behind (if b then option_map and_one g else (if begins_batch p m stmt then begun_by (skeleton stmt) x.end else None))
      into true is = one_more g flat is
      into false is = begun (begins_batch p m stmt) refl

-- ---- both sessions
record SessionsAlong (s t : Session) : Type 0 where
  public : GoesAlong s.public t.public
  tables : s.tables ≡ t.tables
  draws : s.draws ≡ t.draws

early : (m : ℕ) → m < 2 ^ 63 → is_late m ≡ false
early m few = grind (arith, nat_tests)

module _ (s t : Session) (along : SessionsAlong s t) (few : s.asked < 2 ^ 63) (few_too : t.asked < 2 ^ 63) (stmt : Stmt) where
  late : is_late s.asked ≡ is_late t.asked
  late = early s.asked few ∙ sym (early t.asked few_too)

  answer_along : verdict s.public s.asked s.tables stmt ≡ verdict t.public t.asked t.tables stmt
  answer_along =
      verdict_same s.draws s.public t.public along.public.settings s.asked t.asked late s.tables stmt
      ∙ ap (λ (ts : Tables). verdict t.public t.asked ts stmt) along.tables

  full_along : is_full_now s stmt ≡ is_full_now t stmt
  full_along =
      full_same s.draws s.public t.public along.public.settings s.asked t.asked late s.tables stmt
      ∙ (λ i. is_full (along.draws i) t.public t.asked (along.tables i) stmt)

  shows_along : seen_now s stmt ≡ seen_now t stmt
  shows_along =
      seen_same s.draws s.public t.public along.public.settings s.asked t.asked late s.tables stmt
      ∙ (λ i. seen (along.draws i) t.public t.asked (along.tables i) stmt)

  settles_along : settle s.draws s.public s.asked s.tables stmt ≡ settle t.draws t.public t.asked t.tables stmt
  settles_along =
      settle_same s.draws s.public t.public along.public.settings s.asked t.asked late s.tables stmt
      ∙ (λ i. settle (along.draws i) t.public t.asked (along.tables i) stmt)

  -- by itself in both
  alone_along : SessionsAlong (after Alone s stmt) (after Alone t stmt)
  alone_along = record {
    public = subst (λ (x : Seen). GoesAlong (next s.public (skeleton stmt) (seen_now s stmt)) (next t.public (skeleton stmt) x)) shows_along (next_along s.public t.public along.public (skeleton stmt) (seen_now s stmt));
    tables = settles_along;
    draws =
        let taken : draws_taken s.public (skeleton stmt) (seen_now s stmt).end ≡ draws_taken t.public (skeleton stmt) (seen_now t stmt).end =
        taken_along s.public t.public along.public (skeleton stmt) (seen_now s stmt).end ∙ ap (λ (x : Seen). draws_taken t.public (skeleton stmt) x.end) shows_along in
        λ i. record (along.draws i) { drawn = (along.draws i).drawn + taken i };
  }

  -- with the INSERT before it in the first alone
  with_along : (table : List ℕ) → Names table (skeleton stmt) → has_index s.public table ≡ false → SessionsAlong (after With s stmt) (after Alone t stmt)
  with_along table names flat = record {
    public = record {
      settings = along.public.settings;
      headings = along.public.headings ∙ sym (still t.public table (skeleton stmt) (seen_now t stmt).end names);
    };
    tables = settles_along;
    draws =
        let taken : 0 ≡ draws_taken t.public (skeleton stmt) (seen_now t stmt).end =
        sym (taken_none t.public table (skeleton stmt) (seen_now t stmt).end names (sym (index_along s.public t.public along.public table) ∙ flat)) in
        λ i. record (along.draws i) { drawn = (along.draws i).drawn + taken i };
  }

-- ---- all texts
grows : (s : Session) (texts : List Spelt) (bs : Broken) → s.asked ≤ (after_all s texts bs).asked
grows s [] bs = omega arith
grows s (Ok stmt ∷ texts) bs =
    let more = grows (after (head_of bs) s stmt) texts (rest_of bs) in
    elim (is_full_now s stmt) as (λ (full : Bool). s.asked ≤ (if full then s else after_all (after (head_of bs) s stmt) texts (rest_of bs)).asked)
    [ true ↦ omega arith | false ↦ omega (arith, more) ]
grows s (Err at ∷ texts) bs = grows s texts (rest_of bs)

abbrev Alike : Session → Session → List Spelt → Broken → Type 0
Alike s t texts bs = (answers s texts bs ≡ answers t texts []) × ((after_all s texts bs).tables ≡ (after_all t texts []).tables)

-- as long as neither asks too much
abbrev GoAlike : Option Gathering → Session → Session → List Spelt → Type 0
GoAlike g s t texts = SessionsAlong s t → IsFlatIn s.public g → (after_all s texts (hows g s texts)).asked < 2 ^ 63 → (after_all t texts []).asked < 2 ^ 63 → Alike s t texts (hows g s texts)

module _ (g : Option Gathering) (s t : Session) (stmt : Stmt) (texts : List Spelt) where
  abbrev now : How
  now = how_now g s stmt

  abbrev gathered : Option Gathering
  gathered = gathering_after s.public s.asked g stmt (seen_or_cut now s stmt).end

  module _ (along : SessionsAlong s t) (flat : IsFlatIn s.public g) (few : s.asked < 2 ^ 63) (few_too : t.asked < 2 ^ 63) where
    abbrev Step : How → Type 0
    Step how = SessionsAlong (after how s stmt) (after Alone t stmt) × (answer_or_cut how s stmt ≡ verdict t.public t.asked t.tables stmt)

    step_by : (into unrefused : Bool) → goes_into s.public g (skeleton stmt) ≡ into → Step (if into && unrefused then With else Alone)
    step_by true true is =
        let goes = goes_in s.public g (skeleton stmt) is in
        (with_along s t along few few_too stmt goes.gathering.table goes.same (subst (IsFlatIn s.public) goes.is flat), answer_along s t along few few_too stmt)
    step_by true false is = (alone_along s t along few few_too stmt, answer_along s t along few few_too stmt)
    step_by false unrefused is = (alone_along s t along few few_too stmt, answer_along s t along few few_too stmt)

    step : Step now
    step = step_by (goes_into s.public g (skeleton stmt)) (is_unrefused s.public s.asked stmt) refl

    by_room : (full : Bool) → is_full_now s stmt ≡ full → GoAlike gathered (after now s stmt) (after Alone t stmt) texts
        → (after_all s (Ok stmt ∷ texts) (hows g s (Ok stmt ∷ texts))).asked < 2 ^ 63 → (after_all t (Ok stmt ∷ texts) []).asked < 2 ^ 63 → Alike s t (Ok stmt ∷ texts) (hows g s (Ok stmt ∷ texts))
    by_room true full rest few_all few_all_too =
        let full_too = sym (full_along s t along few few_too stmt) ∙ full in
        let bs = hows gathered (after now s stmt) texts in (
          ap (λ (b : Bool). if b then [] else answer_or_cut now s stmt ∷ answers (after now s stmt) texts bs) full
              ∙ sym (ap (λ (b : Bool). if b then [] else answer_or_cut Alone t stmt ∷ answers (after Alone t stmt) texts []) full_too),
          ap (λ (b : Bool). (if b then s else after_all (after now s stmt) texts bs).tables) full
              ∙ along.tables ∙ sym (ap (λ (b : Bool). (if b then t else after_all (after Alone t stmt) texts []).tables) full_too),
        )
    by_room false room rest few_all few_all_too =
        let room_too = sym (full_along s t along few few_too stmt) ∙ room in
        let behind = after_room s stmt texts (hows g s (Ok stmt ∷ texts)) room in
        let behind_too = after_room t stmt texts [] room_too in
        let both = rest step.0 (gathers_flat s.public s.asked g stmt (seen_or_cut now s stmt) flat)
        (subst (λ (u : Session). u.asked < 2 ^ 63) behind few_all) (subst (λ (u : Session). u.asked < 2 ^ 63) behind_too few_all_too) in (
          answers_room s stmt texts (hows g s (Ok stmt ∷ texts)) room ∙ (λ i. step.1 i ∷ both.0 i) ∙ sym (answers_room t stmt texts [] room_too),
          ap (λ (u : Session). u.tables) behind ∙ both.1 ∙ sym (ap (λ (u : Session). u.tables) behind_too),
        )

all_alike : (g : Option Gathering) (s t : Session) (texts : List Spelt) → GoAlike g s t texts
all_alike g s t [] along flat few few_too = (refl, along.tables)
all_alike g s t (Err at ∷ texts) along flat few few_too =
    let rest = all_alike None s t texts along tt few few_too in
    (ap (λ (all : List Answer). Refused (Syntax at) ∷ all) rest.0, rest.1)
all_alike g s t (Ok stmt ∷ texts) along flat few few_too =
    let soon : s.asked < 2 ^ 63 = omega (arith, few, grows s (Ok stmt ∷ texts) (hows g s (Ok stmt ∷ texts))) in
    let soon_too : t.asked < 2 ^ 63 = omega (arith, few_too, grows t (Ok stmt ∷ texts) []) in
    by_room g s t stmt texts along flat soon soon_too (is_full_now s stmt) refl
    (all_alike (gathered g s t stmt texts) (after (now g s t stmt texts) s stmt) (after Alone t stmt) texts) few few_too

pub batches_answer_alike : BatchesAnswerAlike
batches_answer_alike s texts few few_too =
    let both = all_alike None s s texts (record { public = record { settings = refl; headings = refl }; tables = refl; draws = refl }) tt few few_too in
    record { answers = both.0; tables = both.1 }
