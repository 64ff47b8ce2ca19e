-- The room and the region of a join, over the selection of its rows.
use Rattle.ob_exec.proofs.Words.{ap, arith, from, Lasts, RoomState, subst, sym, UsesRoomFor, World, ℕ, ◌∙◌, ◌≡◌}
use Rattle.std.proofs.Common.{max}
use Rattle.ob_vault.specs.Tied.{Lives, Ready}
use Rattle.ob_vault.specs.declared.region.Region.{Region}
use Rattle.ob_vault.proofs.Runs.{lives_lasts}
use Rattle.ob_flat.specs.declared.flat.Flat.{Flat}
use Rattle.ob_select.specs.Selecting.{UsesRoom}

pub room_twice : (old mid new : RoomState) (n : ℕ) (a d : World) → mid ≡ record old { high = max old.high n } → UsesRoom mid new → UsesRoomFor old new a d
room_twice old mid new n a d is used =
    let grown = ap (λ (r : RoomState). r.high) is in
    record {
      same = used.same ∙ ap (λ (r : RoomState). record r { high = new.high }) is;
      kept = omega (arith, grown, used.kept);
      some = λ asked. used.some;
    }

pub lives_after : (a b : World) (shape : Region) (flat made : Flat) → flat ≡ made → Ready a → Lasts (from a.vault.next) a b → Lives made.region shape a → (r : Region) × Lives flat.region r b
lives_after a b shape flat made is ready lasts lives =
    let still = lives_lasts (from a.vault.next) a b lasts made.region shape (λ above. let below = ready.below made.region shape lives.live in omega (arith, above, below)) lives in
    (shape, subst (λ (q : ℕ). Lives q shape b) (sym (ap (λ (f : Flat). f.region) is)) still)
