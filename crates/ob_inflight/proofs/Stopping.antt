-- What is left by an act that gave up, and when the first changed block was read.
use Rattle.std.proofs.Common.{◌≡◌, ◌<◌, inl, inr, ℕ, ◌+◌, List, [], ◌++◌, Some, None, Option, length, refl, sym, ◌∙◌, ap, subst, arith, append_assoc}
use Rattle.std.specs.Prelude.{is_some, slice_get}
use Rattle.std.proofs.lemmas.Bool.{cases_lt}
use Rattle.std.proofs.lemmas.List.{append-nil}
use Rattle.std.proofs.lemmas.Option.{same_Some, slice_get_within}
use Rattle.ob_base.specs.Events.{Event}
use Rattle.ob_base.specs.declared.access.Access.{Access}
use Rattle.ob_base.specs.declared.config.Public.{Public}
use Rattle.ob_script.specs.Flights.{accesses_in, turns}
use Rattle.ob_script.specs.Trace.{Served}
use Rattle.ob_store.proofs.Steps.{later_refl, later_trans}
use Rattle.ob_store.specs.Runs.{Began, Later}
use Rattle.ob_store.specs.State.{FalseRead}
use Rattle.ob_vault.specs.State.{World}
use Rattle.ob_vault.specs.Tied.{ReadsIn}
use Rattle.ob_inflight.specs.AfterTurns.{AllMay, BeginsIn, HasGoneOn, HasStood, HaveGoneOn, HaveStood, IsInFlight, IsBegun, KeepsOn, setting_off}
use Rattle.ob_inflight.specs.Closing.{Closed}
use Rattle.ob_inflight.specs.Kinds.{Kind, Moment}
use Rattle.ob_inflight.specs.Progress.{Progress}
use Rattle.ob_inflight.proofs.Acts.{reads_more}
use Rattle.ob_inflight.proofs.Lists.{get_some}

-- what was so at a moment is so later, and what is so then still later
pub keeps_same : {F : Type 0} (k : Kind F) (ended : List Closed) (last now : Moment F) → now.flyers ≡ last.flyers → KeepsOn k ended ended last now
keeps_same {F} k ended last now flyers = record {
  size = ap (λ (l : List F). length l) flyers;
  more = [];
  first = sym (append-nil ended);
  same = λ i f g get_f get_g is. ap (λ (x : F). k.progress x) (it i f g get_f get_g);
  failed = λ i f g get_f get_g is.
      let one = it i f g get_f get_g in
      (ap (λ (x : F). (k.progress x).served) one, ap (λ (x : F). (k.progress x).failed) one ∙ is);
  may = λ xs all. subst (λ (fs : List F). AllMay k.May fs xs) flyers all;
}
  where
    it : (i : ℕ) (f g : F) → slice_get last.flyers i ≡ Some f → slice_get now.flyers i ≡ Some g → g ≡ f
    it i f g get_f get_g = same_Some g f (sym get_g ∙ ap (λ (l : List F). slice_get l i) flyers ∙ get_f)

pub keeps_still : {F : Type 0} (k : Kind F) (first second third : List Closed) (a b c : Moment F) → KeepsOn k first second a b → KeepsOn k second third b c → KeepsOn k first third a c
keeps_still {F} k first second third a b c before after = record {
  size = after.size ∙ before.size;
  more = before.more ++ after.more;
  first = after.first ∙ ap (λ (l : List Closed). l ++ after.more) before.first ∙ append_assoc first before.more after.more;
  same = λ i f h get_f get_h is.
      let g = between i h get_h in
      let one = before.same i f g.0 get_f g.1 is in
      after.same i g.0 h g.1 get_h (ap (λ (x : Progress). is_some x.outcome) one ∙ is) ∙ one;
  failed = λ i f h get_f get_h is.
      let g = between i h get_h in
      let one = before.failed i f g.0 get_f g.1 is in
      let two = after.failed i g.0 h g.1 get_h one.1 in
      (two.0 ∙ one.0, two.1);
  may = λ xs all. before.may xs (after.may xs all);
}
  where
    between : (i : ℕ) (h : F) → slice_get c.flyers i ≡ Some h → (g : F) × (slice_get b.flyers i ≡ Some g)
    between i h at = get_some b.flyers i (let n = slice_get_within c.flyers i h at in let m = after.size in omega (arith, n, m))

stood_still : {F : Type 0} (k : Kind F) (words : ℕ → ℕ) (p : Public) (share n : ℕ) (ended_last ended_now : List Closed) (start last now : Moment F) → KeepsOn k ended_last ended_now last now
    → Later last.world.store now.world.store → HasStood k words p share n ended_last start last → HasStood k words p share n ended_now start now
stood_still k words p share n ended_last ended_now start last now keeps later was = record {
  last = was.last;
  ended = was.ended;
  current = was.current;
  aloft = was.aloft;
  keeps = keeps_still k was.ended ended_last ended_now was.last last now was.keeps keeps;
  later = later_trans was.last.world.store last.world.store now.world.store was.later later;
}

pub past_still : {F : Type 0} (k : Kind F) (words : ℕ → ℕ) (p : Public) (share turn : ℕ) (ended_last ended_now : List Closed) (start last now : Moment F) → KeepsOn k ended_last ended_now last now
    → Later last.world.store now.world.store → HaveStood k words p share turn ended_last start last → HaveStood k words p share turn ended_now start now
past_still k words p share turn ended_last ended_now start last now keeps later past n le = stood_still k words p share n ended_last ended_now start last now keeps later (past n le)

-- they stand so now
pub past_now : {F : Type 0} (k : Kind F) (words : ℕ → ℕ) (p : Public) (share turn : ℕ) (ended : List Closed) (current : List Event) (start now : Moment F) → IsInFlight k words turn p share ended current start now
    → ((n : ℕ) → n < turn → HasStood k words p share n ended start now) → HaveStood k words p share turn ended start now
past_now k words p share turn ended current start now aloft before n le = elim (cases_lt n turn) [
  | inl less ↦ before n less
  | inr at ↦
      let same : turn ≡ n = omega (arith, le, at) in
      subst (λ (m : ℕ). HasStood k words p share m ended start now) same
      (record { last = now; ended = ended; current = current; aloft = aloft; keeps = keeps_same k ended now now refl; later = later_refl now.world.store })
]

-- one turn more was taken, from one where they stood so
pub went_on : {F : Type 0} (k : Kind F) (words : ℕ → ℕ) (p : Public) (share n : ℕ) (ended ended_now : List Closed) (current : List Event) (start last now : Moment F) → IsInFlight k words n p share ended current start last
    → (keeps : KeepsOn k ended ended_now last now) → Later last.world.store now.world.store
    → (log : List (ℕ × Access)) → ((xs : List Served) → AllMay k.May last.flyers xs → (turns words (n + 1) (setting_off p start.world.vault.next xs)).log ≡ log)
    → HaveGoneOn k words p share n ended start last → HaveGoneOn k words p share (n + 1) ended_now start now
unfolding stood_still
went_on k words p share n ended ended_now current start last now aloft keeps later log next went m le = elim (cases_lt m n) [
  | inl less ↦
      let was = went m less in
      record { stood = stood_still k words p share m ended ended_now start last now keeps later was.stood; log = was.log; next = was.next }
  | inr at ↦
      let same : n ≡ m = omega (arith, le, at) in
      subst (λ (j : ℕ). HasGoneOn k words p share j ended_now start now) same
      (record { stood = record { last = last; ended = ended; current = current; aloft = aloft; keeps = keeps; later = later }; log = log; next = next })
]

begins_still : {F : Type 0} (k : Kind F) (words : ℕ → ℕ) (p : Public) (share : ℕ) (lie : FalseRead) (ended_last ended_now : List Closed) (start last now : Moment F) → KeepsOn k ended_last ended_now last now
    → Later last.world.store now.world.store → BeginsIn k words p share lie ended_last start last → BeginsIn k words p share lie ended_now start now
unfolding stood_still
begins_still k words p share lie ended_last ended_now start last now keeps later was = record {
  turn = was.turn;
  stood = stood_still k words p share was.turn ended_last ended_now start last now keeps later was.stood;
  none = was.none;
  past = was.past;
  reads = was.reads;
}

module _ {F : Type 0} (k : Kind F) (words : ℕ → ℕ) (n : ℕ) (p : Public) (share : ℕ) (ended : List Closed) (current : List Event) (start last : Moment F)
    (aloft : IsInFlight k words n p share ended current start last) (now : Moment F) where
  abbrev v : World
  v = now.world

  -- what was asked since is a first part of one act, the next one of all that they may turn out to be served
  module _ (done rest : List Access) (asked : v.store.asked ≡ last.world.store.asked ++ done)
      (next : (xs : List Served) → AllMay k.May last.flyers xs
      → accesses_in (turns words (n + 1) (setting_off p start.world.vault.next xs)).log ≡ accesses_in aloft.turned.log ++ (done ++ rest)) where
    all_asked : v.store.asked ≡ start.world.store.asked ++ (accesses_in aloft.turned.log ++ done)
    all_asked = asked ∙ ap (λ (l : List Access). l ++ done) aloft.turned.asked ∙ append_assoc start.world.store.asked (accesses_in aloft.turned.log) done

    pub began_next : (xs : List Served) → AllMay k.May last.flyers xs → Began (accesses_in (turns words (n + 1) (setting_off p start.world.vault.next xs)).log) start.world.store v.store
    began_next xs all = record {
      done = accesses_in aloft.turned.log ++ done;
      rest = rest;
      split = append_assoc (accesses_in aloft.turned.log) done rest ∙ sym (next xs all);
      asked = all_asked;
    }

    -- a lie that came in that was read in it
    pub begun_next : ((lie : FalseRead) → last.world.store.lie ≡ None → v.store.lie ≡ Some lie → ReadsIn lie v.store.asked)
        → Later last.world.store v.store
        → (ended_now : List Closed) → KeepsOn k ended ended_now last now → HaveStood k words p share n ended start last → IsBegun k words p share ended start last → IsBegun k words p share ended_now start now
    begun_next reads later ended_now keeps past before none lie is = go last.world.store.lie refl
      where
        go : (o : Option FalseRead) → last.world.store.lie ≡ o → BeginsIn k words p share lie ended_now start now
        go (Some other) was = let same : other ≡ lie = cc (later.lie other was, is) in begins_still k words p share lie ended ended_now start last now keeps later (before none lie (was ∙ ap Some same))
        go None was = record {
          turn = n;
          stood = record { last = last; ended = ended; current = current; aloft = aloft; keeps = keeps; later = later };
          none = was;
          past = past;
          reads = λ xs all.
              let log : start.world.store.asked ++ accesses_in (turns words (n + 1) (setting_off p start.world.vault.next xs)).log ≡ v.store.asked ++ rest =
              ap (λ (l : List Access). start.world.store.asked ++ l) (next xs all ∙ sym (append_assoc (accesses_in aloft.turned.log) done rest))
              ∙ sym (append_assoc start.world.store.asked (accesses_in aloft.turned.log ++ done) rest)
              ∙ ap (λ (l : List Access). l ++ rest) (sym all_asked) in
              subst (ReadsIn lie) (sym log) (reads_more lie v.store.asked rest (reads lie was is));
        }
