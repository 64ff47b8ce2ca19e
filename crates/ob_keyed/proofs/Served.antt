-- What an access does, by the statement that asked it.
use Rattle.std.proofs.Common.{◌≡◌, ◌<◌, ◌^◌, inl, inr, ℕ, Some, None, Result, Ok, Err, OnOk, sym, ◌∙◌, subst}
use Rattle.std.specs.Prelude.{IfErr, MatchResult, slice_set}
use Rattle.ob_base.specs.Indexes.{leaf_of_draw}
use Rattle.ob_base.specs.Stored.{Stored}
use Rattle.ob_mean.specs.Keyed.{Ask, ask_of}
use Rattle.ob_mean.specs.Verdict.{Held, index_of, went}
use Rattle.ob_oram.specs.declared.fault.OramErr.{OramErr}
use Rattle.ob_oram.specs.declared.fault.OramErr.TheVariants.{Failed, Tampered, StashFull}
use Rattle.ob_oram.specs.declared.index.Index.{Index}
use Rattle.ob_oram.specs.declared.op.Got.{Got}
use Rattle.ob_oram.specs.Accessing.{Accesses, Stops, leaf_read, remap_of}
use Rattle.ob_oram.specs.Indexes.{IsShaped, IsStoredAs, leaves_of}
use Rattle.ob_oram.specs.Scripts.{access_script}
use Rattle.ob_oram.specs.Short.{AccessShort, AsksReads}
use Rattle.ob_oram.proofs.AccessRuns.{leaf_read_below}
use Rattle.ob_oram.proofs.Shortness.{access_short}
use Rattle.ob_sql.specs.declared.stmt.Stmt.{Stmt}
use Rattle.ob_vault.specs.State.{World}
use Rattle.ob_vault.specs.Calls.{Went, two}
use Rattle.ob_vault.specs.Words.{IsHonest}
use Rattle.ob_keyed.specs.declared.keyed.Keyed.{Keyed}
use Rattle.ob_keyed.specs.Meaning.{AnswersAsk, Asks, IsIndexOf, StopsAsk, leaf_went}
use Rattle.ob_keyed.specs.Serving.{Asked, AsksRoom, GoneBy, Overfills, ReadsLeaf, ServesKeyed, ShowsLeaf, TellsAccess}
use Rattle.ob_keyed.proofs.Joining.{leaf_told, told_err, told_ok, told_room}

module _ (stmt : Stmt) (index left : Index) (draw : ℕ) (keyed : Keyed) (old new : World) (shaped : IsShaped index) (by : GoneBy stmt index left draw keyed old new) where
  short_of : (r : Result Got OramErr) → IfErr r (λ e. Stops e index left (leaf_read index by.op draw) old new) → IfErr r (λ e. AccessShort e index (leaf_read index by.op draw) old new)
  short_of (Ok got) stops = tt
  short_of (Err e) stops = access_short index left (leaf_read index by.op draw) old new e stops

  same_stop : (e : OramErr) → Stops e index left (leaf_read index by.op draw) old new → left ≡ record index { leaves = left.leaves; buffer = left.buffer }
  same_stop Failed (inl stops) = stops.stays.same.same
  same_stop Failed (inr stops) = stops.same.same
  same_stop (Tampered q x) stops = stops.0.stays.same.same
  same_stop StashFull stops = stops.1.same.same

  same_of : (r : Result Got OramErr) → Accesses index left by.op draw r old new → left ≡ record index { leaves = left.leaves; buffer = left.buffer }
  same_of (Ok got) accesses = accesses.leaves.same
  same_of (Err e) accesses = same_stop e accesses.err

  moved_of : (r : Result Got OramErr) → Accesses index left by.op draw r old new → OnOk r (leaves_of left ≡ slice_set (leaves_of index) (remap_of index by.op draw).key (leaf_of_draw index.height draw))
  moved_of (Ok got) accesses = accesses.leaves.leaves
  moved_of (Err e) accesses = tt

  keys : ReadsLeaf index left draw keyed.leaf keyed.result
  keys = record { key = (remap_of index by.op draw).key; read = by.gone.leaf; moved = moved_of keyed.result by.gone.accesses }

  overfills : keyed.result ≡ Err StashFull → Overfills stmt index draw keyed.leaf old new
  overfills is =
      record { ask = by.ask; op = by.op; asks = by.asks; asked = by.asked; read = by.gone.leaf; too_many = by.gone.accesses.full is }

  asked : Asked index left keyed.leaf keyed.result old new
  asked =
      let all = by.gone.accesses in
      record {
        ok = subst (λ (leaf : ℕ). OnOk keyed.result (Went (access_script index leaf) (two index.tree index.stash) old new)) (sym by.gone.leaf) all.ok;
        err = subst (λ (leaf : ℕ). IfErr keyed.result (λ e. AccessShort e index leaf old new)) (sym by.gone.leaf) (short_of keyed.result all.err);
        below = subst (λ (leaf : ℕ). leaf < 2 ^ index.height) (sym by.gone.leaf) (leaf_read_below index shaped by.op draw);
        seals = all.seals;
        same = same_of keyed.result all;
        stands = all.stands;
        ended = all.ended;
      }

  -- what the table of a heading is asked
  module _ (t : Stored Held) (ask : Ask) (is : IsIndexOf t.heading index) (asks : ask_of t.heading stmt ≡ Some ask) where
    asks_same : by.ask ≡ ask
    asks_same = let one = by.asked t.heading (sym is.schema) in cc (one, asks)

    asks_op : Asks ask by.op
    asks_op = subst (λ (a : Ask). Asks a by.op) asks_same by.asks

    leaf_is : t.held.leaves ≡ leaves_of index → keyed.leaf ≡ leaf_went draw t ask
    leaf_is leaves = by.gone.leaf ∙ leaf_told t index by.op ask draw is asks_op by.fits leaves

    told_by : IsHonest old new → IsStoredAs index (index_of t.heading t.held) old → (r : Result Got OramErr) → Accesses index left by.op draw r old new
        → MatchResult r (λ got. AnswersAsk t left ask draw got new) (λ e. StopsAsk t left ask draw e new)
    told_by honest lies (Ok got) accesses = told_ok t index left by.op ask draw old new is asks_op honest lies got accesses
    told_by honest lies (Err e) accesses = told_err t index left by.op ask draw old new is asks_op honest lies e accesses

    room_by : IsHonest old new → IsStoredAs index (index_of t.heading t.held) old → went draw t ask ≡ None → AsksReads index old new
    room_by honest lies none = told_room t index left by.op ask draw old new is asks_op honest lies keyed.result by.gone.accesses none

  shows_leaf : ShowsLeaf stmt index draw keyed.leaf
  shows_leaf = λ t ask is asks leaves. leaf_is t ask is asks leaves

  tells : TellsAccess stmt index left draw keyed.result old new
  tells = λ honest t ask is asks lies. told_by t ask is asks honest lies keyed.result by.gone.accesses

  room : AsksRoom stmt index draw old new
  room = λ honest t ask is asks lies none. room_by t ask is asks honest lies none

  pub serves : ServesKeyed stmt index left draw keyed old new
  serves = record { asked = asked; keys = keys; full = overfills; leaf = shows_leaf; told = tells; room = room }
