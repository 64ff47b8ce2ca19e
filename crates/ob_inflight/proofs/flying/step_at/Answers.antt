use Rattle.std.proofs.Common.{◌≡◌, ◌-◌, ℕ, List, ◌++◌, length, take, refl, sym, ◌∙◌, ap, subst, arith}
use Rattle.std.specs.Prelude.{OnOk, slice_index_or}
use Rattle.std.proofs.lemmas.Option.{get_or_from_slice_get, slice_get-get_or}
use Rattle.ob_vault.proofs.RowsLemmas.{rows_room}
use Rattle.ob_vault.specs.Places.{at}
use Rattle.ob_vault.specs.Rows.{SameSizes}
use Rattle.ob_inflight.specs.Answers.{Tells}
use Rattle.ob_inflight.specs.Kinds.{share_at}
use Rattle.ob_inflight.proofs.Lists.{share_here, share_there, sizes_there}
use Rattle.ob_script.proofs.FlightEnds.{total_part}
use Rattle.ob_inflight.proofs.flying.step_at.Goals as goal

pub booked_by-requires : goal.booked_by-requires
booked_by-requires g c = omega (arith, c.requires.may.small)

pub overflow_sub-others : goal.overflow_sub-others
overflow_sub-others g c =
    let same = ap (λ f. (g.F.Flyer.progress f).booked) (get_or_from_slice_get c.args.flyers.now c.args.place c.requires.may.flyer c.index-flyers-place.result c.requires.may.at) in
    omega (arith, same, c.booked.ensures, c.booked_by.ensures, total_part (λ f. (g.F.Flyer.progress f).booked) c.args.flyers.now c.args.place c.requires.may.flyer c.requires.may.at)

pub overflow_mul-place : goal.overflow_mul-place
overflow_mul-place g c =
    let less = c.requires.within in
    let room = rows_room c.args.place 8 c.args.share (omega (arith, less, c.requires.may.several)) in
    omega (arith, room, c.requires.may.narrow)

pub split_at_mut-front-requires : goal.split_at_mut-front-requires
split_at_mut-front-requires g c =
    let less = c.requires.within in
    omega (arith, rows_room c.args.place (length c.args.flyers.now) c.args.share less, c.requires.may.shares)

pub split_at_mut-own-requires : goal.split_at_mut-own-requires
split_at_mut-own-requires g c =
    let less = c.requires.within in
    omega (arith, rows_room c.args.place (length c.args.flyers.now) c.args.share less, c.requires.may.shares, c.split_at_mut-front.ensures.back_len)

pub step-requires-clause-ready : goal.step-requires-clause-ready
step-requires-clause-ready g c = c.requires.may.ready

pub step-requires-clause-few : goal.step-requires-clause-few
step-requires-clause-few g c =
    let same = ap (λ f. (g.F.Flyer.progress f).most) (get_or_from_slice_get c.args.flyers.now c.args.place c.requires.may.flyer c.index-flyers-place-2.result c.requires.may.at) in
    omega (arith, same, c.requires.may.few)

pub step-requires-clause-spare : goal.step-requires-clause-spare
step-requires-clause-spare g c =
    let same = ap (λ f. (g.F.Flyer.progress f).booked) (get_or_from_slice_get c.args.flyers.now c.args.place c.requires.may.flyer c.index-flyers-place.result c.requires.may.at) in
    let too = ap (λ f. (g.F.Flyer.progress f).booked) (get_or_from_slice_get c.args.flyers.now c.args.place c.requires.may.flyer c.index-flyers-place-2.result c.requires.may.at) in
    omega (arith, same, too, c.booked.ensures, c.booked_by.ensures, c.requires.may.spare, total_part (λ f. (g.F.Flyer.progress f).booked) c.args.flyers.now c.args.place c.requires.may.flyer c.requires.may.at)

pub step-requires-clause-others : goal.step-requires-clause-others
step-requires-clause-others g c = omega (arith, c.booked_by.ensures, c.requires.may.small)

pub step-requires-clause-left : goal.step-requires-clause-left
step-requires-clause-left g c =
    ap (λ f. (g.F.Flyer.progress f).over) (get_or_from_slice_get c.args.flyers.now c.args.place c.requires.may.flyer c.index-flyers-place-2.result c.requires.may.at) ∙ c.requires.may.left

pub step-requires-clause-fits : goal.step-requires-clause-fits
step-requires-clause-fits g c =
    let same = get_or_from_slice_get c.args.flyers.now c.args.place c.requires.may.flyer c.index-flyers-place-2.result c.requires.may.at in
    let own = c.split_at_mut-own.ensures.front ∙ ap (take c.args.share) c.split_at_mut-front.ensures.back in
    subst (λ f. g.F.Flyer.Fits f c.args.rows.now c.split_at_mut-own.result.0.now) (sym same)
    (subst (λ (l : List (List ℕ)). g.F.Flyer.Fits c.requires.may.flyer c.args.rows.now l) (sym own) c.requires.may.fits)

pub step-requires-clause-holds : goal.step-requires-clause-holds
step-requires-clause-holds g c =
    let same = get_or_from_slice_get c.args.flyers.now c.args.place c.requires.may.flyer c.index-flyers-place-2.result c.requires.may.at in
    let own = c.split_at_mut-own.ensures.front ∙ ap (take c.args.share) c.split_at_mut-front.ensures.back in
    record {
      events = c.requires.may.held.events;
      holds = subst (λ f. g.F.Flyer.Holds f c.split_at_mut-own.result.0.now c.requires.may.held.events (at g.R.Revisions.state c.args.vault.now (g.S.BlockStore.state c.args.store.now))) (sym same)
          (subst (λ (l : List (List ℕ)). g.F.Flyer.Holds c.requires.may.flyer l c.requires.may.held.events (at g.R.Revisions.state c.args.vault.now (g.S.BlockStore.state c.args.store.now))) (sym own) c.requires.may.held.holds);
    }

pub returns-clause-rows : goal.returns-clause-rows
returns-clause-rows g c = c.step.ensures.rows

pub returns-clause-sink : goal.returns-clause-sink
returns-clause-sink g c = c.step.ensures.sink

pub returns-clause-kept : goal.returns-clause-kept
returns-clause-kept g c =
    let front = c.split_at_mut-front.result.0.now in
    let own = c.split_at_mut-own.result.0.now in
    let back = c.split_at_mut-own.result.1.now in
    let all : c.args.kept.now ≡ front ++ (own ++ back) = c.split_at_mut-front.ensures.value ∙ ap (λ (l : List (List ℕ)). front ++ l) c.split_at_mut-own.ensures.value in
    subst (λ (l : List (List ℕ)). SameSizes l (front ++ (c.step.new.kept ++ back))) (sym all)
    (sizes_there c.args.share c.args.place front own c.step.new.kept back c.split_at_mut-front.ensures.front_len c.split_at_mut-own.ensures.front_len c.step.ensures.kept)

pub returns-clause-steps : goal.returns-clause-steps
returns-clause-steps g c =
    let front = c.split_at_mut-front.result.0.now in
    let own = c.split_at_mut-own.result.0.now in
    let back = c.split_at_mut-own.result.1.now in
    let now = c.step.new.kept in
    let less = c.requires.within in
    let before = slice_index_or c.args.flyers.now c.args.place c.index-flyers-place-2.result in
    let front_len = c.split_at_mut-front.ensures.front_len in
    let own_len = c.split_at_mut-own.ensures.front_len in
    let all : c.args.kept.now ≡ front ++ (own ++ back) = c.split_at_mut-front.ensures.value ∙ ap (λ (l : List (List ℕ)). front ++ l) c.split_at_mut-own.ensures.value in
    let was : own ≡ share_at c.args.share c.args.place c.args.kept.now = c.split_at_mut-own.ensures.front ∙ ap (take c.args.share) c.split_at_mut-front.ensures.back in
    let wide : length now ≡ c.args.share = c.step.ensures.kept.count ∙ own_len in
    let is : share_at c.args.share c.args.place (front ++ (now ++ back)) ≡ now = share_here c.args.share c.args.place front now back front_len wide in
    let same = ap (λ f. (g.F.Flyer.progress f).booked) (get_or_from_slice_get c.args.flyers.now c.args.place c.requires.may.flyer c.index-flyers-place.result c.requires.may.at) in
    let too = ap (λ f. (g.F.Flyer.progress f).booked) (get_or_from_slice_get c.args.flyers.now c.args.place c.requires.may.flyer c.index-flyers-place-2.result c.requires.may.at) in
    record {
      before = slice_index_or c.args.flyers.now c.args.place c.index-flyers-place-2.result;
      after = c.step.new.self;
      at = slice_get-get_or c.args.flyers.now c.args.place c.index-flyers-place-2.result less;
      flyers = refl;
      kept = λ i within off. share_there c.args.share c.args.place front own now back front_len own_len c.step.ensures.kept i off ∙ ap (share_at c.args.share i) (sym all);
      others = c.booked_by.result - c.booked.result;
      rest = omega (arith, same, too, c.booked.ensures, c.booked_by.ensures, total_part (λ f. (g.F.Flyer.progress f).booked) c.args.flyers.now c.args.place c.requires.may.flyer c.requires.may.at);
      fits = subst (λ (l : List (List ℕ)). OnOk c.step.result (g.F.Flyer.Fits c.step.new.self c.step.new.rows l)) (sym is) c.step.ensures.fits;
      steps = c.step.ensures.steps;
      stops = c.step.ensures.stops;
      tells =
          subst (λ (l : List (List ℕ)). Tells g.E.Emit.grew g.E.Emit.cut (g.F.Flyer.progress before).prints (g.F.Flyer.Holds before l) (g.F.Flyer.Holds c.step.new.self (share_at c.args.share c.args.place (front ++ (now ++ back)))) (g.F.Flyer.Halts before) c.step.result
          (at g.R.Revisions.state c.args.vault.now (g.S.BlockStore.state c.args.store.now)) (at g.R.Revisions.state c.step.new.vault (g.S.BlockStore.state c.step.new.store)) c.args.out.now c.step.new.out) was
          (subst (λ (l : List (List ℕ)). Tells g.E.Emit.grew g.E.Emit.cut (g.F.Flyer.progress before).prints (g.F.Flyer.Holds before own) (g.F.Flyer.Holds c.step.new.self l) (g.F.Flyer.Halts before) c.step.result
          (at g.R.Revisions.state c.args.vault.now (g.S.BlockStore.state c.args.store.now)) (at g.R.Revisions.state c.step.new.vault (g.S.BlockStore.state c.step.new.store)) c.args.out.now c.step.new.out) (sym is) c.step.ensures.tells);
    }
