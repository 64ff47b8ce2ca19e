-- The salt under which a run goes on is the one that its keeper drew last.
use Rattle.ob_headline.proofs.Words.{ap, Base, Bool, Config, KeeperState, KeySet, List, Ok, Option, Some, StoreState, ℕ, ◌∙◌, ◌≡◌}
use Rattle.ob_headline.specs.Saving.{BeganSaved, HandsBegun}
use Rattle.ob_reopen.specs.declared.mark.Mark.{Mark}
use Rattle.ob_reopen.specs.declared.mark.Mark.TheVariants.{Fresh, InUse}

hands_drawn : (mark : Mark) (old new : KeeperState) → HandsBegun mark (Ok tt) old new → new.drawn ≡ old.drawn
hands_drawn Fresh old new hands = hands.drawn
hands_drawn InUse old new hands = absurd hands
hands_drawn other old new hands = ap (λ (k : KeeperState). k.drawn) hands

pub began_drew : {config : Config} {secret salt : List ℕ} {keys : KeySet} {tracing : Bool} {base : Base} {s0 s1 : StoreState} {t0 t1 : Option (List ℕ)} {k0 k1 : KeeperState} → BeganSaved config secret salt keys tracing base s0 s1 t0 t1 k0 k1 → k1.drawn ≡ Some salt
began_drew {k1 = k1} began = hands_drawn began.mark began.drawn k1 began.hands ∙ began.draws.drawn
