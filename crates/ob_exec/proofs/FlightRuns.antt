-- What the turns of statements in flight come to: each stands as it should, and what was asked is what the words merge.
use Rattle.ob_exec.proofs.Words.{Access, accesses_in, act_of, AllMay, AllMayFly, answer_labels, ap, AreNamed, AreSteady, arith, boarding, Closed, Draws, Emits, Emitted, Event, events_at, first_of_merge, flight_public, flying_of, in_flight, Index, is_access, is_some, IsAt, IsMeant, Kind, labels_of, length, length-map, List, map, merge, Moment, None, Option, Outcome, Partly, Progress, Public, refl, refusal_now, script, Seen, selection, SelectsFromOne, Served, setting_off, Skeleton, skeleton, slice_get, Some, Stmt, subst, suc, sym, Tables, take, true, turns, verdict, zero, ℕ, [], ◌<◌, ◌∙◌, ◌∷◌, ◌≡◌, ◌≤◌}
use Rattle.std.specs.Prelude.{unwrap_or}
use Rattle.ob_inflight.specs.AfterTurns.{IsInFlight, flight_in}
use Rattle.ob_inflight.specs.Closing.{outcome_at}
use Rattle.ob_inflight.specs.Kinds.{share_at}
use Rattle.ob_inflight.specs.Progress.{KeepsCourse}
use Rattle.ob_mean.specs.Refusals.{tables_of}
use Rattle.ob_script.specs.FlightLaws.{AllEnded, MayFly, acts_in}
use Rattle.ob_script.specs.Flights.{Flight, asked_at, flight, next_flight, own, turns_of}
use Rattle.ob_script.proofs.FlightLemmas.{flown_in_order}
use Rattle.ob_script.proofs.FlightEnds.{acts_are_all, ended_is_flight, own_long}
use Rattle.ob_sql.specs.declared.stmt.Stmt.TheVariants.{SelectRows as RowsStmt}
use Rattle.ob_exec.specs.InFlight.{IsFlown, served_as}
use Rattle.ob_exec.proofs.FlightLists.{acts_same, all_may, closed_at, flying_back, flying_get, get_first, get_mapped, get_other, log_first, past_none, served_same, sets_off}
use Rattle.ob_exec.proofs.FlightStage.{HasTable, HoldNow, IsSet, IsStage, closed_of}

-- it serves this statement by these settings
pub record ServesOne {F : Type 0} (k : Kind F) (m : ℕ) (p : Public) (stmt : Stmt) (f : F) : Type 0 where
  pub is : (k.progress f).stmt ≡ stmt
  pub public : (k.progress f).public ≡ p
  pub set : IsSet m (k.progress f)
  pub selects : SelectsFromOne (skeleton stmt)

-- those that fly as they begin, one for each statement
pub record Boards {F : Type 0} (k : Kind F) (m : ℕ) (p : Public) (stmts : List Stmt) (start : Moment F) : Type 0 where
  pub next : start.world.vault.next ≡ p.next_region
  pub some : 1 ≤ length stmts
  pub size : length start.flyers ≡ length stmts
  pub each : (i : ℕ) (f : F) (stmt : Stmt) → slice_get start.flyers i ≡ Some f → slice_get stmts i ≡ Some stmt → ServesOne k m (in_flight stmts p) stmt f

-- by what it goes stays
table_kept : (a b : Progress) → KeepsCourse a b → HasTable a → HasTable b
table_kept a b same t = record {
  name = t.name;
  place = t.place;
  table = t.table;
  reads = ap tables_of same.stmt ∙ t.reads;
  plain = (λ j. is_access (same.public j) (skeleton (same.stmt j))) ∙ t.plain;
  here = subst (λ (x : Public). IsAt t.name t.place t.table x.tables) (sym same.public) (record { get = t.here.get; named = t.here.named });
  shape = t.shape;
  is = same.flat ∙ t.is;
  names = subst (λ (x : Public). AreNamed x.tables) (sym same.public) t.names;
  labelled = λ select is.
      subst (λ (x : Public). labels_of (selection x select).flat.schema (selection x select).cols ≡ answer_labels (RowsStmt select) x) (sym same.public) (t.labelled select (sym same.stmt ∙ is));
}

pub set_kept : (m : ℕ) (a b : Progress) → KeepsCourse a b → IsSet m a → IsSet m b
set_kept m a b same set = record {
  refusal = same.refusal ∙ set.refusal ∙ sym (λ j. refusal_now (same.public j) m (same.stmt j));
  table = λ none. table_kept a b same (set.table (sym same.refusal ∙ none));
}

pub some_ended : (ended : List Closed) (i : ℕ) → i < length ended → is_some (outcome_at ended i) ≡ true
some_ended [] i within = absurd (omega (arith, within))
some_ended (one ∷ ended) zero within = refl
some_ended (one ∷ ended) (suc i) within = some_ended ended i (omega (arith, within))

module _ {F : Type 0} (k : Kind F) (m : ℕ) (stage : IsStage k m) (steady_of : (p : Public) (flown : List Served) → AllMayFly flown → AreSteady p flown)
    (p : Public) (stmts : List Stmt) (words : ℕ → ℕ) (share : ℕ) (start : Moment F) (boards : Boards k m p stmts start)
    (n : ℕ) (q : Public) (ended : List Closed) (current : List Event) (now : Moment F) (aloft : IsInFlight k words n q share ended current start now) where
  abbrev served : F → Served
  served f = (k.progress f).served

  abbrev shown : F → Seen
  shown f = (k.progress f).served.seen

  -- what is served of each by now
  abbrev pub by_now : List Served
  by_now = map served now.flyers

  abbrev log : List (ℕ × Access)
  log = aloft.turned.log

  pub as_many : length now.flyers ≡ length stmts
  as_many = aloft.course.size ∙ boards.size

  pub they_hold : (i : ℕ) (f : F) → slice_get now.flyers i ≡ Some f → k.Holds f (share_at share i now.kept) (events_at ended current i) now.world
  they_hold i f at = aloft.stand.holds i f at

  pub they_serve : (i : ℕ) (f : F) (stmt : Stmt) → slice_get now.flyers i ≡ Some f → slice_get stmts i ≡ Some stmt → ServesOne k m (in_flight stmts p) stmt f
  they_serve i f stmt at there =
      let g = get_other now.flyers start.flyers i f (sym aloft.course.size) at in
      let one = boards.each i g.0 stmt g.1 there in
      let same = aloft.course.each i g.0 f g.1 at in
      record { is = same.stmt ∙ one.is; public = same.public ∙ one.public; set = set_kept m (k.progress g.0) (k.progress f) same one.set; selects = one.selects }

  statement_at : (i : ℕ) (f : F) → slice_get now.flyers i ≡ Some f → (stmt : Stmt) × (slice_get stmts i ≡ Some stmt)
  statement_at i f at = get_other now.flyers stmts i f (sym as_many) at

  pub public_is : q ≡ flight_public (length stmts) p
  public_is =
      let one = get_first now.flyers (let size = as_many in let some = boards.some in omega (arith, size, some)) in
      let stmt = statement_at 0 one.0 one.1 in
      sym (aloft.stand.public 0 one.0 one.1) ∙ (they_serve 0 one.0 stmt.0 one.1 stmt.1).public

  pub may_now : AllMay k.May now.flyers (map (λ (f : F). (k.progress f).served) now.flyers)
  may_now = all_may k served now.flyers (λ i f at. stage.served f _ _ _ (they_hold i f at))

  -- whatever may turn out to be served of each
  pub may_fly : (i : ℕ) (f : F) (x : Served) → slice_get now.flyers i ≡ Some f → k.May f x → MayFly x
  may_fly i f x at may =
      let stmt = statement_at i f at in
      let one = they_serve i f stmt.0 at stmt.1 in
      record {
        skeleton = subst (λ (y : Skeleton). SelectsFromOne y) (sym (stage.outline f x may ∙ ap skeleton one.is)) one.selects;
        one_plan = stage.single f x may;
      }

  fly_now : AllMayFly (map (λ (f : F). (k.progress f).served) now.flyers)
  fly_now = record {
    each = λ i x at.
        let one = get_mapped served now.flyers i x at in
        subst (λ (y : Served). MayFly y) one.2 (may_fly i one.0 (served one.0) one.1 (stage.served one.0 _ _ _ (they_hold i one.0 one.1)));
  }

  pub steady_now : AreSteady p (map (λ (f : F). (k.progress f).served) now.flyers)
  steady_now = steady_of p by_now fly_now

  now_long : length (map (λ (f : F). (k.progress f).served) now.flyers) ≡ length stmts
  now_long = length-map now.flyers served ∙ as_many

  -- these are the statements, and what is seen of them
  pub served_now : map (λ (f : F). (k.progress f).served) now.flyers ≡ served_as stmts (map (λ (f : F). (k.progress f).served.seen) now.flyers)
  served_now = served_same k now.flyers stmts as_many
      (λ i f stmt at there. stage.outline f (served f) (stage.served f _ _ _ (they_hold i f at)) ∙ ap skeleton (they_serve i f stmt at there).is)

  -- it sets off as the flight of these begins, whatever is served in it
  pub sets_now : (xs : List Served) → length xs ≡ length stmts → setting_off q start.world.vault.next xs ≡ boarding p xs
  sets_now xs long = sets_off p q (length stmts) start.world.vault.next xs public_is long boards.next

  pub turned_now : turns words n (boarding p (map (λ (f : F). (k.progress f).served) now.flyers))
      ≡ flight_in k q now.world.vault.next now.flyers (map (λ (f : F). (k.progress f).served) now.flyers) aloft.turned.log
  turned_now = ap (turns words n) (sym (sets_now by_now now_long)) ∙ aloft.turned.turns by_now may_now

  pub log_now : (turns words n (boarding p (map (λ (f : F). (k.progress f).served) now.flyers))).log ≡ aloft.turned.log
  log_now = ap (λ (s : Flight). s.log) turned_now

  acts_now : acts_in (turns words n (boarding p (map (λ (f : F). (k.progress f).served) now.flyers))).flying ≡ n
  acts_now = ap (λ (s : Flight). acts_in s.flying) turned_now ∙ acts_same k served now.flyers ∙ aloft.turned.acts

  -- each asked so many by itself
  pub own_now : (i : ℕ) (f : F) → slice_get now.flyers i ≡ Some f → length (own i aloft.turned.log) ≡ (k.progress f).asked
  own_now i f at =
      ap (λ (l : List (ℕ × Access)). length (own i l)) (sym log_now)
      ∙ own_long p by_now words steady_now n i (flying_of (k.progress f) (served f))
      (ap (λ (s : Flight). slice_get s.flying i) turned_now ∙ flying_get k served now.flyers i f at)

  -- one that has nothing left to ask has asked all that it asks
  pub all_now : (i : ℕ) (f : F) → slice_get now.flyers i ≡ Some f → (next : ℕ) → act_of (k.progress f) (k.progress f).served next ≡ None
      → (k.progress f).asked ≡ length (script (in_flight stmts p) (k.progress f).served.skeleton (k.progress f).served.seen)
  all_now i f at next none =
      let ahead = (flown_in_order p by_now words n steady_now).each i (flying_of (k.progress f) (served f))
      (ap (λ (s : Flight). slice_get s.flying i) turned_now ∙ flying_get k served now.flyers i f at) in
      let stmt = statement_at i f at in
      let q = flight_public (length by_now) p in
      let here = unwrap_or (k.progress f).region next in
      let public : (k.progress f).public ≡ q = (they_serve i f stmt.0 at stmt.1).public ∙ ap (λ (x : ℕ). flight_public x p) (sym now_long) in
      let most : length (asked_at q here (served f)) ≤ (k.progress f).asked =
      past_none (asked_at q here (served f)) (k.progress f).asked (ap (λ (x : Public). slice_get (asked_at x here (served f)) (k.progress f).asked) (sym public) ∙ none) in
      let long = ahead.steady.long here p.next_region in
      let longer = ahead.steady.long (turns words n (boarding p by_now)).public.next_region p.next_region in
      let same : length (asked_at q p.next_region (served f)) ≡ length (script (in_flight stmts p) (served f).skeleton (served f).seen) =
      ap (λ (x : ℕ). length (script (flight_public x p) (served f).skeleton (served f).seen)) now_long in
      omega (arith, ahead.within, most, long, longer, same)

  -- what was asked are the first of the accesses that are merged
  pub first_now : aloft.turned.log ≡ take (length aloft.turned.log) (flight p (map (λ (f : F). (k.progress f).served) now.flyers) words).log
  first_now =
      sym log_now ∙ log_first p by_now words steady_now n
      ∙ ap (λ (l : List (ℕ × Access)). take (length l) (flight p by_now words).log) log_now

  pub merged_now : accesses_in aloft.turned.log ≡ take (length aloft.turned.log) (merge p (map (λ (f : F). (k.progress f).served) now.flyers) words)
  merged_now =
      ap accesses_in (sym log_now) ∙ first_of_merge p by_now words steady_now n
      ∙ ap (λ (l : List (ℕ × Access)). take (length l) (merge p by_now words)) log_now

  -- ---- each of them
  abbrev events : ℕ → List Event
  events i = events_at ended current i

  pub closed_now : (i : ℕ) (f : F) → slice_get now.flyers i ≡ Some f → closed_of (k.progress f).outcome (events_at ended current i) ≡ slice_get ended i
  closed_now i f at = ap (λ (o : Option Outcome). closed_of o (events i)) (aloft.stand.outcome i f at) ∙ closed_at ended current i

  -- may be seen and answered so
  pub flown_now : (i : ℕ) (f : F) (stmt : Stmt) → slice_get now.flyers i ≡ Some f → slice_get stmts i ≡ Some stmt
      → IsFlown (in_flight stmts p) m (k.progress f).asked stmt (k.progress f).served.seen (slice_get ended i)
  flown_now i f stmt at there =
      let one = they_serve i f stmt at there in
      subst (λ (o : Option Closed). IsFlown (in_flight stmts p) m (k.progress f).asked stmt (shown f) o) (closed_now i f at)
      (subst (λ (x : Public). IsFlown x m (k.progress f).asked stmt (shown f) (closed_of (k.progress f).outcome (events i))) one.public
      (subst (λ (x : Stmt). IsFlown (k.progress f).public m (k.progress f).asked x (shown f) (closed_of (k.progress f).outcome (events i))) one.is
      (stage.stands f _ _ _ (they_hold i f at) one.set)))

  outcome_now : (i : ℕ) (f : F) (one : Closed) → slice_get now.flyers i ≡ Some f → slice_get ended i ≡ Some one → (k.progress f).outcome ≡ Some one.outcome
  outcome_now i f one at is = aloft.stand.outcome i f at ∙ ap (Rattle.std.specs.Prelude.option_map (λ (c : Closed). c.outcome)) is

  events_now : (i : ℕ) (one : Closed) → slice_get ended i ≡ Some one → events_at ended current i ≡ one.events
  events_now i one is = ended_events ended i one is
    where
      ended_events : (ended : List Closed) (i : ℕ) (one : Closed) → slice_get ended i ≡ Some one → events_at ended current i ≡ one.events
      ended_events [] i one is = absurd (cc is)
      ended_events (c ∷ ended) zero one is = ap (λ (x : Closed). x.events) (Rattle.std.proofs.lemmas.Option.same_Some c one is)
      ended_events (c ∷ ended) (suc i) one is = ended_events ended i one is

  pub emits_now : (i : ℕ) (f : F) (stmt : Stmt) (one : Closed) → slice_get now.flyers i ≡ Some f → slice_get stmts i ≡ Some stmt → slice_get ended i ≡ Some one
      → Emits stmt (answer_labels stmt p) one.outcome one.events
  emits_now i f stmt one at there is =
      let it = they_serve i f stmt at there in
      subst (λ (es : List Event). Emits stmt (answer_labels stmt p) one.outcome es) (events_now i one is)
      (subst (λ (x : Public). Emits stmt (answer_labels stmt x) one.outcome (events i)) it.public
      (subst (λ (x : Stmt). Emits x (answer_labels x (k.progress f).public) one.outcome (events i)) it.is
      (stage.emits f _ _ _ (they_hold i f at) it.set one.outcome (outcome_now i f one at is))))

  -- by its meaning, where the tables are held
  module _ (indexes : List Index) (tables : Tables) (held : HoldNow p indexes tables now.world) where
    held_by : (i : ℕ) (f : F) (stmt : Stmt) → slice_get now.flyers i ≡ Some f → slice_get stmts i ≡ Some stmt → HoldNow (k.progress f).public indexes tables now.world
    held_by i f stmt at there =
        subst (λ (x : Public). HoldNow x indexes tables now.world) (sym (they_serve i f stmt at there).public)
        (record { tells = held.tells; held = held.held; in_place = held.in_place; nolie = held.nolie })

    pub meant_now : (d : Draws) (i : ℕ) (f : F) (stmt : Stmt) → slice_get now.flyers i ≡ Some f → slice_get stmts i ≡ Some stmt
        → IsMeant d (in_flight stmts p) m (k.progress f).asked (k.progress f).asked tables stmt (k.progress f).served.seen (slice_get ended i)
    meant_now d i f stmt at there =
        let one = they_serve i f stmt at there in
        subst (λ (o : Option Closed). IsMeant d (in_flight stmts p) m (k.progress f).asked (k.progress f).asked tables stmt (shown f) o) (closed_now i f at)
        (subst (λ (x : Public). IsMeant d x m (k.progress f).asked (k.progress f).asked tables stmt (shown f) (closed_of (k.progress f).outcome (events i))) one.public
        (subst (λ (x : Stmt). IsMeant d (k.progress f).public m (k.progress f).asked (k.progress f).asked tables x (shown f) (closed_of (k.progress f).outcome (events i))) one.is
        (stage.told f _ _ _ (they_hold i f at) one.set indexes tables d (held_by i f stmt at there))))

    pub emitted_now : (i : ℕ) (f : F) (stmt : Stmt) (one : Closed) → slice_get now.flyers i ≡ Some f → slice_get stmts i ≡ Some stmt → slice_get ended i ≡ Some one
        → Emitted stmt (in_flight stmts p) m tables one.outcome one.events
    emitted_now i f stmt one at there is =
        let it = they_serve i f stmt at there in
        subst (λ (es : List Event). Emitted stmt (in_flight stmts p) m tables one.outcome es) (events_now i one is)
        (subst (λ (x : Public). Emitted stmt x m tables one.outcome (events i)) it.public
        (subst (λ (x : Stmt). Emitted x (k.progress f).public m tables one.outcome (events i)) it.is
        (stage.emitted f _ _ _ (they_hold i f at) it.set indexes tables (held_by i f stmt at there) one.outcome (outcome_now i f one at is))))

    pub partly_now : (i : ℕ) (f : F) (stmt : Stmt) → slice_get now.flyers i ≡ Some f → slice_get stmts i ≡ Some stmt
        → Partly (answer_labels stmt p) (verdict (in_flight stmts p) m tables stmt) (events_at ended current i)
    partly_now i f stmt at there =
        let it = they_serve i f stmt at there in
        subst (λ (x : Public). Partly (answer_labels stmt x) (verdict x m tables stmt) (events i)) it.public
        (subst (λ (x : Stmt). Partly (answer_labels x (k.progress f).public) (verdict (k.progress f).public m tables x) (events i)) it.is
        (stage.partly f _ _ _ (they_hold i f at) it.set indexes tables (held_by i f stmt at there)))

  -- ---- where all have ended
  module _ (all : length ended ≡ length now.flyers) where
    all_over : AllEnded (turns words n (boarding p (map (λ (f : F). (k.progress f).served) now.flyers)))
    all_over = record {
      each = λ i x at.
          let back = flying_back k served now.flyers i x (ap (λ (s : Flight). slice_get s.flying i) (sym turned_now) ∙ at) in
          let within = Rattle.std.proofs.lemmas.Option.slice_get_within now.flyers i back.0 back.1 in
          ap (λ (y : Rattle.ob_script.specs.Flights.Flying). y.ended) (sym back.2)
          ∙ ap is_some (aloft.stand.outcome i back.0 back.1) ∙ some_ended ended i (omega (arith, within, all));
    }

    pub whole_now : turns words n (boarding p (map (λ (f : F). (k.progress f).served) now.flyers)) ≡ flight p (map (λ (f : F). (k.progress f).served) now.flyers) words
    whole_now = ended_is_flight p by_now words steady_now n all_over

    pub turns_now : n ≡ turns_of p (map (λ (f : F). (k.progress f).served) now.flyers)
    turns_now = acts_are_all p by_now words steady_now n all_over acts_now

    pub all_merged : accesses_in aloft.turned.log ≡ merge p (map (λ (f : F). (k.progress f).served) now.flyers) words
    all_merged = ap accesses_in (sym log_now) ∙ ap (λ (s : Flight). accesses_in s.log) whole_now

    pub next_now : next_flight p (map (λ (f : F). (k.progress f).served) now.flyers) words ≡ record p { next_region = now.world.vault.next }
    next_now = ap (λ (s : Flight). record p { next_region = s.public.next_region }) (sym whole_now ∙ turned_now)
