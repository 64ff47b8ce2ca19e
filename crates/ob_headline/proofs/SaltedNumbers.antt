-- Over all runs that have a salt no two writes are under one salt and one number.
use Rattle.ob_headline.proofs.Words.{Answer, ap, at_of, Bool, Config, FlightSettings, fresh, inl, inr, KeeperState, KeptEnding, List, Option, Outside, refl, Report, slice_get, Some, subst, sym, ℕ, [], ◌∙◌, ◌≡◌}
use Rattle.ob_headline.proofs.SavedNumbers.{HasSalt, one_number, salted_own, seals_once, seals_salt}
use Rattle.ob_headline.specs.SaltedHeadline.{RunSalted, own_keys}
use Rattle.ob_headline.specs.SaltedRuns.{AnySalted, HaveSalts, SealsDrawn, SealsIn, drawn_salt, salt_of, saving, unsaved}
use Rattle.ob_seal.specs.KeySet.{pair_at}

-- each block of a run that neither keeps nor saves its tables is by the keys of its own salt
pub by_own_salt : (secret salt : List ℕ) (region place number : ℕ) → (pair_at (own_keys secret salt) (at_of region place number)).salt ≡ Some salt
by_own_salt secret salt region place number = salted_own secret salt [] (own_keys secret salt) (at_of region place number) refl tt

module _ {settings : Option Config} {flight : Option FlightSettings} {Takes : Type 0} {tracing : Bool} {old new : Outside} {k0 k1 : KeeperState} {ending : KeptEnding} {answers : List Answer} {report : Report} where
  drawn_once : (ran : RunSalted settings flight Takes tracing old new k0 k1 ending answers report) (k l : ℕ) (salt : Option (List ℕ)) (number : ℕ) → SealsDrawn ran k salt number → SealsDrawn ran l salt number → k ≡ l
  drawn_once (inl run) k l salt number first second = absurd first
  drawn_once (inr (inl run)) k l salt number first second = absurd first
  drawn_once (inr (inr run)) k l salt number first second =
      one_number (fresh (Some run.config)).start new.store.asked k l first.region second.region first.place second.place first.wrote second.wrote (sym first.numbered ∙ second.numbered)

  drawn_has : (ran : RunSalted settings flight Takes tracing old new k0 k1 ending answers report) (k : ℕ) (salt : Option (List ℕ)) (number : ℕ) → SealsDrawn ran k salt number → HasSalt (drawn_salt ran) salt
  drawn_has (inl run) k salt number seals = absurd seals
  drawn_has (inr (inl run)) k salt number seals = absurd seals
  drawn_has (inr (inr run)) k salt number seals = record {
    bytes = run.salt;
    is = run.draws.drawn;
    same = seals.salted ∙ by_own_salt run.secret run.salt seals.region seals.place number;
  }

any_once : (run : AnySalted) (k l : ℕ) (salt : Option (List ℕ)) (number : ℕ) → SealsIn run k salt number → SealsIn run l salt number → k ≡ l
any_once (saving run) k l salt number first second = seals_once run.one.run.ran k l salt number first second
any_once (unsaved one) k l salt number first second = drawn_once one.run.ran k l salt number first second

any_salt : (run : AnySalted) (k : ℕ) (salt : Option (List ℕ)) (number : ℕ) → SealsIn run k salt number → HasSalt (salt_of run) salt
any_salt (saving run) k salt number seals = seals_salt run.one.run.ran k salt number seals
any_salt (unsaved one) k salt number seals = drawn_has one.run.ran k salt number seals

pub salted_apart : (runs : List AnySalted) → HaveSalts runs → (i j k l : ℕ) (a b : AnySalted) (salt : Option (List ℕ)) (number : ℕ) → slice_get runs i ≡ Some a → slice_get runs j ≡ Some b
    → SealsIn a k salt number → SealsIn b l salt number → (i ≡ j) × (k ≡ l)
salted_apart runs salts i j k l a b salt number first second here there =
    let one = any_salt a k salt number here in
    let two = any_salt b l salt number there in
    let bytes : ◌≡◌ {A = Option (List ℕ)} (Some two.bytes) (Some one.bytes) = sym two.same ∙ one.same in
    let run : i ≡ j = salts.apart i j a b one.bytes first second one.is (two.is ∙ bytes) in
    let same : ◌≡◌ {A = Option AnySalted} (Some b) (Some a) = sym second ∙ ap (slice_get runs) (sym run) ∙ first in
    let is : b ≡ a = cc same in
    (run, any_once a k l salt number here (subst (λ (r : AnySalted). SealsIn r l salt number) is there))
