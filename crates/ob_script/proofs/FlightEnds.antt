-- How a flight ends.
use Rattle.std.proofs.Common.{◌≡◌, ℕ, zero, suc, ◌+◌, ◌-◌, ◌≤◌, Bool, true, false, List, [], ◌∷◌, ◌++◌, Some, None, Option, length, map, refl, sym, ◌∙◌, ap, inl, inr, arith}
use Rattle.std.specs.Prelude.{option_map, slice_get, slice_set, take, unwrap_or}
use Rattle.std.proofs.lemmas.Bool.{cases_lt}
use Rattle.std.proofs.lemmas.List.{length-append, length-map, length-take, map-append, take_all, take_at}
use Rattle.std.proofs.lemmas.Option.{same_Some, slice_get-map, slice_get_within}
use Rattle.ob_base.specs.declared.access.Access.{Access}
use Rattle.ob_base.specs.declared.config.Public.{Public}
use Rattle.ob_script.specs.Script.{script}
use Rattle.ob_script.specs.Trace.{Served}
use Rattle.ob_script.specs.Flights.{AreSteady, Flight, Flying, InOrder, IsAhead, IsSteady, accesses_in, acted, asked_at, boarded, boarding, flight, flight_public, gone_on, merge, next_act, own, turn, turns, turns_for, turns_of}
use Rattle.ob_script.specs.FlightLaws.{AllEnded, AsksWhole, EndsWhole, accesses_for, acts_in, number_ended, one_if, total}
use Rattle.ob_script.proofs.FlightLemmas.{act_is, boarded_served, flown_in_order, grows_turns, ordered_boarding, ordered_turns, served_turns}
use Rattle.ob_script.proofs.FlightTurns.{goes_or_rests, rest_turns, rests}
use Rattle.ob_script.proofs.ListPlaces.{get_none}

-- ---- sums
module _ {F : Type 0} (v : F → ℕ) where
  pub total_set : (fs : List F) (i : ℕ) (f g : F) → slice_get fs i ≡ Some f → total v (slice_set fs i g) + v f ≡ total v fs + v g
  unfolding total
  total_set [] i f g at = cc
  total_set (h ∷ fs) zero f g at = let e = ap v (same_Some h f at) in omega (arith, e)
  total_set (h ∷ fs) (suc i) f g at = let e = total_set fs i f g at in omega (arith, e)

  pub total_part : (fs : List F) (i : ℕ) (f : F) → slice_get fs i ≡ Some f → v f ≤ total v fs
  unfolding total
  total_part [] i f at = cc
  total_part (h ∷ fs) zero f at = let e = ap v (same_Some h f at) in omega (arith, e)
  total_part (h ∷ fs) (suc i) f at = let e = total_part fs i f at in omega (arith, e)

  pub total_none : (fs : List F) → ((i : ℕ) (f : F) → slice_get fs i ≡ Some f → v f ≡ 0) → total v fs ≡ 0
  unfolding total
  total_none [] all = refl
  total_none (f ∷ fs) all = let one = all 0 f refl in let rest = total_none fs (λ i g at. all (suc i) g at) in omega (arith, one, rest)

  pub total_ones : (fs : List F) → ((i : ℕ) (f : F) → slice_get fs i ≡ Some f → v f ≡ 1) → total v fs ≡ length fs
  unfolding total
  total_ones [] all = refl
  total_ones (f ∷ fs) all = let one = all 0 f refl in let rest = total_ones fs (λ i g at. all (suc i) g at) in omega (arith, one, rest)

-- ---- the turns that are left
abbrev left_by : (ended : Bool) → (all asked : ℕ) → ℕ
left_by true all asked = 0
left_by false all asked = all + 1 - asked

-- an access each, and an end
abbrev left_of : Public → Flying → ℕ
left_of p f = left_by f.ended (length (asked_at p 0 f.served)) f.asked

abbrev left : Public → Flight → ℕ
left p s = total (left_of p) s.flying

-- ---- numbers that grow by one with each act
record Counts (m : Flight → ℕ) : Type 0 where
  one : (i : ℕ) (f : Flying) (act : Option Access) (s : Flight) → slice_get s.flying i ≡ Some f → f.ended ≡ false → m (gone_on i act f s) ≡ m s + 1

-- what was asked, and who has ended
abbrev asked_or_ended : Flight → ℕ
asked_or_ended s = length s.log + number_ended s.flying

counts_log : Counts asked_or_ended
counts_log = record { one = one }
  where
    one : (i : ℕ) (f : Flying) (act : Option Access) (s : Flight) → slice_get s.flying i ≡ Some f → f.ended ≡ false → asked_or_ended (gone_on i act f s) ≡ asked_or_ended s + 1
    one i f None s at goes_on =
        let sum = total_set (λ (f : Flying). one_if f.ended) s.flying i f (acted None f) at in
        let none = ap one_if goes_on in
        let size = length-append s.log [] in
        omega (arith, sum, none, size)
    one i f (Some a) s at goes_on =
        let sum = total_set (λ (f : Flying). one_if f.ended) s.flying i f (acted (Some a) f) at in
        let size = length-append s.log ((i, a) ∷ []) in
        omega (arith, sum, size)

-- what each has done
abbrev acts_of : Flight → ℕ
acts_of s = acts_in s.flying

counts_acts : Counts acts_of
counts_acts = record { one = one }
  where
    one : (i : ℕ) (f : Flying) (act : Option Access) (s : Flight) → slice_get s.flying i ≡ Some f → f.ended ≡ false → acts_of (gone_on i act f s) ≡ acts_of s + 1
    one i f None s at goes_on =
        let sum = total_set (λ (f : Flying). f.asked + one_if f.ended) s.flying i f (acted None f) at in
        let none = ap one_if goes_on in
        omega (arith, sum, none)
    one i f (Some a) s at goes_on =
        let sum = total_set (λ (f : Flying). f.asked + one_if f.ended) s.flying i f (acted (Some a) f) at in
        omega (arith, sum)

module _ (p : Public) where
  -- an act takes one of the turns of a statement
  left_acts : (next i : ℕ) (act : Option Access) (f : Flying) (log : List (ℕ × Access)) → f.ended ≡ false
      → slice_get (asked_at p (unwrap_or f.region next) f.served) f.asked ≡ act → IsAhead p next i f log → left_of p (acted act f) + 1 ≡ left_of p f
  left_acts next i None f log goes_on is ahead =
      let now = ap (λ (b : Bool). left_by b (length (asked_at p 0 f.served)) f.asked) goes_on in
      let past = get_none (asked_at p (unwrap_or f.region next) f.served) f.asked is in
      let here = ahead.steady.long (unwrap_or f.region next) 0 in
      let there = ahead.steady.long next 0 in
      let most = ahead.within in
      omega (arith, now, past, here, there, most)
  left_acts next i (Some a) f log goes_on is ahead =
      let now = ap (λ (b : Bool). left_by b (length (asked_at p 0 f.served)) f.asked) goes_on in
      let then = ap (λ (b : Bool). left_by b (length (asked_at p 0 f.served)) (f.asked + 1)) goes_on in
      let within = slice_get_within (asked_at p (unwrap_or f.region next) f.served) f.asked a is in
      let here = ahead.steady.long (unwrap_or f.region next) 0 in
      omega (arith, now, then, within, here)

  -- all turns of those that have ended are done, and of no others
  left_none : (s : Flight) → AllEnded s → left p s ≡ 0
  left_none s all = total_none (left_of p) s.flying (λ i f at. ap (λ (b : Bool). left_by b (length (asked_at p 0 f.served)) f.asked) (all.each i f at))

  none_left : (s : Flight) → InOrder p s → left p s ≡ 0 → AllEnded s
  none_left s ordered none = record {
    each = λ i f at.
        let part = total_part (left_of p) s.flying i f at in
        let ahead = ordered.each i f at in
        ends f.ended refl (length (asked_at p 0 f.served)) f.asked (let e = ahead.steady.long s.public.next_region 0 in omega (arith, ahead.within, e)) (omega (arith, part, none));
  }
    where
      ends : (b : Bool) {c : Bool} → c ≡ b → (all asked : ℕ) → asked ≤ all → left_by c all asked ≡ 0 → c ≡ true
      ends true is all asked most nothing = is
      ends false is all asked most nothing = let e = ap (λ (b : Bool). left_by b all asked) is in absurd (omega (arith, e, nothing, most))

  -- a turn takes one of those that are left, if any are
  left_turn : (word : ℕ) (s : Flight) → InOrder p s → left p (turn word s) ≡ left p s - 1
  left_turn word s ordered = elim (goes_or_rests word s) [
    | inl all ↦ let none = left_none s all in ap (left p) (rests word s all) ∙ omega (arith, none)
    | inr one ↦
        let f = one.flying in
        let act = next_act s.public f in
        let ahead = ordered.each one.place f one.picks.at in
        let less = left_acts s.public.next_region one.place act f s.log one.picks.goes_on (act_is p s f ordered) ahead in
        let sum = total_set (left_of p) s.flying one.place f (acted act f) one.picks.at in
        ap (left p) one.picks.turn ∙ omega (arith, less, sum)
  ]

  -- what is counted and what is left stay as many together
  all_turn : (m : Flight → ℕ) → Counts m → (word : ℕ) (s : Flight) → InOrder p s → m (turn word s) + left p (turn word s) ≡ m s + left p s
  all_turn m counts word s ordered = elim (goes_or_rests word s) [
    | inl all ↦ ap (λ (r : Flight). m r + left p r) (rests word s all)
    | inr one ↦
        let f = one.flying in
        let act = next_act s.public f in
        let ahead = ordered.each one.place f one.picks.at in
        let less = left_acts s.public.next_region one.place act f s.log one.picks.goes_on (act_is p s f ordered) ahead in
        let sum = total_set (left_of p) s.flying one.place f (acted act f) one.picks.at in
        let more = counts.one one.place f act s one.picks.at one.picks.goes_on in
        ap (λ (r : Flight). m r + left p r) one.picks.turn ∙ omega (arith, less, sum, more)
  ]

  left_turns : (words : ℕ → ℕ) (n : ℕ) (s : Flight) → InOrder p s → left p (turns words n s) ≡ left p s - n
  unfolding turns
  left_turns words zero s ordered = omega arith
  left_turns words (suc n) s ordered =
      let one = left_turn (words n) (turns words n s) (ordered_turns p words n s ordered) in
      let rest = left_turns words n s ordered in
      omega (arith, one, rest)

  all_turns : (m : Flight → ℕ) → Counts m → (words : ℕ → ℕ) (n : ℕ) (s : Flight) → InOrder p s → m (turns words n s) + left p (turns words n s) ≡ m s + left p s
  unfolding turns
  all_turns m counts words zero s ordered = refl
  all_turns m counts words (suc n) s ordered =
      all_turn m counts (words n) (turns words n s) (ordered_turns p words n s ordered) ∙ all_turns m counts words n s ordered

  -- ---- at the start
  left_boarding : (xs : List Served) → ((i : ℕ) (x : Served) → slice_get xs i ≡ Some x → IsSteady p x) → total (left_of p) (map boarded xs) ≡ turns_for p xs
  unfolding turns_for total
  left_boarding [] steady = refl
  left_boarding (x ∷ xs) steady =
      let one : length (asked_at p 0 x) ≡ length (script p x.skeleton x.seen) = (steady 0 x refl).long 0 p.next_region in
      let rest = left_boarding xs (λ i y at. steady (suc i) y at) in
      omega (arith, one, rest)

  turns_are : (xs : List Served) → turns_for p xs ≡ accesses_for p xs + length xs
  unfolding turns_for accesses_for
  turns_are [] = refl
  turns_are (x ∷ xs) = let rest = turns_are xs in omega (arith, rest)

none_boarded : (v : Flying → ℕ) → ((x : Served) → v (boarded x) ≡ 0) → (xs : List Served) → total v (map boarded xs) ≡ 0
unfolding total
none_boarded v none [] = refl
none_boarded v none (x ∷ xs) = let one = none x in let rest = none_boarded v none xs in omega (arith, one, rest)

-- ---- a whole flight
module _ (p : Public) (flown : List Served) (words : ℕ → ℕ) (steady : AreSteady p flown) where
  abbrev after : ℕ → Flight
  after n = turns words n (boarding p flown)

  abbrev settings : Public
  settings = flight_public (length flown) p

  left_after : (n : ℕ) → left settings (after n) ≡ turns_of p flown - n
  left_after n =
      let start = left_boarding settings flown steady in
      let less = left_turns settings words n (boarding p flown) (ordered_boarding p flown steady) in
      omega (arith, start, less)

  -- after a turn for each access and each end all have ended, and not before
  pub all_ended : (n : ℕ) → turns_of p flown ≤ n → AllEnded (turns words n (boarding p flown))
  all_ended n enough = none_left settings (after n) (flown_in_order p flown words n steady) (let e = left_after n in omega (arith, e, enough))

  pub turns_needed : (n : ℕ) → AllEnded (turns words n (boarding p flown)) → turns_of p flown ≤ n
  turns_needed n all = let none = left_none settings (after n) all in let e = left_after n in omega (arith, none, e)

  -- more turns change nothing
  pub settled : (n : ℕ) → turns_of p flown ≤ n → turns words n (boarding p flown) ≡ flight p flown words
  settled n enough =
      let rest : n - turns_of p flown + turns_of p flown ≡ n = omega (arith, enough) in
      ap (λ (m : ℕ). turns words m (boarding p flown)) (sym rest)
      ∙ rest_turns words (turns_of p flown) (n - turns_of p flown) (boarding p flown) (all_ended (turns_of p flown) (omega arith))

  -- so the turns that have all ended are the whole flight
  pub ended_is_flight : (n : ℕ) → AllEnded (turns words n (boarding p flown)) → turns words n (boarding p flown) ≡ flight p flown words
  ended_is_flight n all = settled n (turns_needed n all)

  -- what each turn counts, and what is left
  adds_up : (m : Flight → ℕ) → Counts m → m (boarding p flown) ≡ 0 → (n : ℕ) → m (after n) + (turns_of p flown - n) ≡ turns_of p flown
  adds_up m counts none n =
      let start = left_boarding settings flown steady in
      let all = all_turns settings m counts words n (boarding p flown) (ordered_boarding p flown steady) in
      let left = left_after n in
      omega (arith, start, none, all, left)

  -- each turn up to there asks an access, or a statement ends in it
  pub turns_add_up : (n : ℕ) → n ≤ turns_of p flown → length (turns words n (boarding p flown)).log + number_ended (turns words n (boarding p flown)).flying ≡ n
  turns_add_up n within =
      let none = none_boarded (λ (f : Flying). one_if f.ended) (λ x. refl) flown in
      let all = adds_up asked_or_ended counts_log (omega (arith, none)) n in
      omega (arith, all, within)

  acts_add_up : (n : ℕ) → acts_in (after n).flying + (turns_of p flown - n) ≡ turns_of p flown
  acts_add_up n = adds_up acts_of counts_acts (none_boarded (λ (f : Flying). f.asked + one_if f.ended) (λ x. refl) flown) n

  -- so do the acts of the statements
  pub acts_are : (n : ℕ) → n ≤ turns_of p flown → acts_in (turns words n (boarding p flown)).flying ≡ n
  acts_are n within = let all = acts_add_up n in omega (arith, all, within)

  -- where as many acts were done as there were turns, none was in vain
  pub acts_within : (n : ℕ) → acts_in (turns words n (boarding p flown)).flying ≡ n → n ≤ turns_of p flown
  acts_within n acts = let all = acts_add_up n in omega (arith, all, acts)

  -- and if all have ended these were all turns
  pub acts_are_all : (n : ℕ) → AllEnded (turns words n (boarding p flown)) → acts_in (turns words n (boarding p flown)).flying ≡ n → n ≡ turns_of p flown
  acts_are_all n all acts = let most = acts_within n acts in let least = turns_needed n all in omega (arith, most, least)

  -- as many statements as there are
  pub flying_long : (n : ℕ) → length (turns words n (boarding p flown)).flying ≡ length flown
  flying_long n =
      let served = λ (f : Flying). f.served in
      sym (length-map (after n).flying served) ∙ ap length (served_turns words n (boarding p flown)) ∙ length-map (map boarded flown) served ∙ length-map flown boarded

  pub number_of_ends : number_ended (flight p flown words).flying ≡ length flown
  number_of_ends =
      let s = flight p flown words in
      let all = all_ended (turns_of p flown) (omega arith) in
      total_ones (λ (f : Flying). one_if f.ended) s.flying (λ i f at. ap one_if (all.each i f at)) ∙ flying_long (turns_of p flown)

  -- the accesses are as many as those of all scripts
  pub length-merge : length (merge p flown words) ≡ accesses_for (flight_public (length flown) p) flown
  length-merge =
      let all = turns_add_up (turns_of p flown) (omega arith) in
      let ends = number_of_ends in
      let sum = turns_are settings flown in
      length-map (flight p flown words).log (λ (e : ℕ × Access). e.1) ∙ omega (arith, all, ends, sum)

  -- what was asked by some turn are the first of them
  pub first_of_merge : (n : ℕ) → accesses_in (turns words n (boarding p flown)).log ≡ take (length (turns words n (boarding p flown)).log) (merge p flown words)
  first_of_merge n = elim (cases_lt n (turns_of p flown)) [
    | inl before ↦
        let more = turns_of p flown - n in
        let sum : more + n ≡ turns_of p flown = omega (arith, before) in
        let grown = grows_turns words (boarding p flown) n more in
        let whole : (flight p flown words).log ≡ (after n).log ++ grown.rest = ap (λ (m : ℕ). (turns words m (boarding p flown)).log) (sym sum) ∙ grown.log in
        let parts : merge p flown words ≡ accesses_in (after n).log ++ accesses_in grown.rest =
        ap accesses_in whole ∙ map-append (λ (e : ℕ × Access). e.1) (after n).log grown.rest in
        sym (ap (take (length (after n).log)) parts
        ∙ take_at (accesses_in (after n).log) (accesses_in grown.rest) (length (after n).log) (length-map (after n).log (λ (e : ℕ × Access). e.1)))
    | inr past ↦
        let same : merge p flown words ≡ accesses_in (after n).log = ap (λ (s : Flight). accesses_in s.log) (sym (settled n past)) in
        let size = length-map (after n).log (λ (e : ℕ × Access). e.1) in
        sym (ap (take (length (after n).log)) same ∙ take_all (length (after n).log) (accesses_in (after n).log) (omega (arith, size)))
  ]

  -- who was served stays
  pub served_at : (n i : ℕ) (f : Flying) → slice_get (turns words n (boarding p flown)).flying i ≡ Some f → slice_get flown i ≡ Some f.served
  served_at n i f at =
      let served = λ (f : Flying). f.served in
      sym (ap (λ (l : List Served). slice_get l i) (served_turns words n (boarding p flown) ∙ boarded_served flown)) ∙ slice_get-map served (after n).flying i ∙ ap (option_map served) at

  -- what it asked so far are the first of its accesses, as many as it asked
  pub own_long : (n i : ℕ) (f : Flying) → slice_get (turns words n (boarding p flown)).flying i ≡ Some f → length (own i (turns words n (boarding p flown)).log) ≡ f.asked
  own_long n i f at =
      let ahead = (flown_in_order p flown words n steady).each i f at in
      let region = unwrap_or f.region (after n).public.next_region in
      let long = ahead.steady.long region (after n).public.next_region in
      let first = length-take f.asked (asked_at settings region f.served) in
      let same = ap length ahead.asked in
      omega (arith, long, first, same, ahead.within)

  -- and each asked its whole script, in the region that it made, if it made one
  pub asks_whole : (i : ℕ) (x : Served) → slice_get flown i ≡ Some x → AsksWhole p flown words i x
  asks_whole i x at = go (slice_get (flight p flown words).flying i) refl
    where
      go : (o : Option Flying) → slice_get (flight p flown words).flying i ≡ o → AsksWhole p flown words i x
      go None none =
          let past = get_none (flight p flown words).flying i none in
          let size = flying_long (turns_of p flown) in
          let within = slice_get_within flown i x at in
          absurd (omega (arith, past, size, within))
      go (Some f) there =
          let s = flight p flown words in
          let ahead = (flown_in_order p flown words (turns_of p flown) steady).each i f there in
          let all = ahead.all ((all_ended (turns_of p flown) (omega arith)).each i f there) in
          let region = unwrap_or f.region s.public.next_region in
          let long = ahead.steady.long region s.public.next_region in
          let mine : f.served ≡ x = same_Some f.served x (sym (served_at (turns_of p flown) i f there) ∙ at) in
          record {
            region = region;
            made = λ h g also is.
                ap (λ (k : Flying). unwrap_or k.region s.public.next_region) (same_Some f h (sym there ∙ also)) ∙ ap (λ (o : Option ℕ). unwrap_or o s.public.next_region) is;
            asked = ahead.asked ∙ take_all f.asked (asked_at settings region f.served) (omega (arith, all, long)) ∙ ap (asked_at settings region) mine;
          }

  pub ends_whole : EndsWhole p flown words
  ends_whole = record {
    ended = all_ended;
    needed = turns_needed;
    settled = settled;
    adds_up = turns_add_up;
    acts = acts_are;
    ends = number_of_ends;
    long = length-merge;
    whole = asks_whole;
    first = first_of_merge;
  }
