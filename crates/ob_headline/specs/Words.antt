-- The words of the headline: the world outside a run, what sinks took, answers.
use Rattle.std.specs.Prelude.{ℕ, ◌≡◌, ◌-◌, ◌⊎◌, ◌||◌, Bool, false, List, [], ◌∷◌, ◌++◌, length, take, IsTrue, Option, None}
use Rattle.std.specs.Io.KnownBytes.{Appends}
use Rattle.std.specs.Option.{option_map_or}
use Rattle.ob_base.specs.Counts.{Rises}
use Rattle.ob_base.specs.declared.config.Config.{Config}
use Rattle.ob_base.specs.declared.config.Plan.{Plan}
use Rattle.ob_base.specs.declared.refusal.Refusal.{Refusal}
use Rattle.ob_base.specs.declared.refusal.Refusal.TheVariants.{Syntax}
use Rattle.ob_verdict.specs.declared.outcome.Outcome.{Outcome}
use Rattle.ob_verdict.specs.declared.outcome.Outcome.TheVariants.{Refused}
use Rattle.ob_headline.specs.Closing.{closing_line, is_refused}
use Rattle.ob_headline.specs.KeyLine.{first_line, secret_of}
use Rattle.ob_seal.specs.KeySet.{KeySet}
use Rattle.ob_seal.specs.Sealed.{keys_of}
use Rattle.ob_store.specs.State.{StoreState}

-- ---- the world outside
-- the counts of the faults of the source and of both sinks
pub record Faults : Type 0 where
  pub source : ℕ
  pub out : ℕ
  pub trace : ℕ

abbrev pub faults_of : (source out trace : ℕ) → Faults
faults_of source out trace = record { source = source; out = out; trace = trace }

-- the bytes that the source has left, and how many its last read gave; the bytes that the sinks of the answers and of the
-- trace hold; the store; and the counts of faults
pub record Outside : Type 0 where
  pub left : Option (List ℕ)
  pub gave : ℕ
  pub written : Option (List ℕ)
  pub traced : Option (List ℕ)
  pub store : StoreState
  pub faults : Faults

abbrev pub outside_of : (left : Option (List ℕ)) (gave : ℕ) (written traced : Option (List ℕ))
    → StoreState → Faults → Outside
outside_of left gave written traced store faults = record {
  left = left;
  gave = gave;
  written = written;
  traced = traced;
  store = store;
  faults = faults;
}

-- the count of one of the two sinks rose
abbrev pub SinksRose : (old new : Faults) → Type 0
SinksRose old new = Rises old.out new.out ⊎ Rises old.trace new.trace

-- no count rose
pub record NoneRose (old new : Faults) : Type 0 where
  pub source : new.source ≡ old.source
  pub out : new.out ≡ old.out
  pub trace : new.trace ≡ old.trace

-- a sink took all of these bytes, and maybe more after them
pub record Took (written0 written1 : Option (List ℕ)) (bytes : List ℕ) : Type 0 where
  pub after : List ℕ
  pub appends : Appends written0 written1 (bytes ++ after)

-- of the bytes that were taken from a source those that came before its last read, which gave so many
abbrev pub before_read : (gave : ℕ) → (taken : List ℕ) → List ℕ
before_read gave taken = take (length taken - gave) taken

-- the second list begins with the first
pub record Begins {A : Type 0} (part whole : List A) : Type 0 where
  pub rest : List A
  pub joined : whole ≡ part ++ rest

-- the store tells what it holds, and gave what was written
pub record IsHonest (store0 store1 : StoreState) : Type 0 where
  pub tells : IsTrue store0.tells
  pub no_lie : store1.lie ≡ None

-- ---- the settings and the secret
-- how many rows may be open; without settings none is served
abbrev pub rows_in : Option Config → ℕ
rows_in settings = option_map_or (λ (config : Config). config.buffer) settings 0

-- the keys of a secret, and of the one in the first line
abbrev pub keys_with : Option (List ℕ) → KeySet
keys_with secret = option_map_or keys_of secret (keys_of [])

abbrev pub keys_in : List ℕ → KeySet
keys_in taken = keys_with (secret_of (first_line taken))

-- ---- answers
-- how a text was answered, what was printed of it, and the plan that was seen of it, if one was
pub record Answer : Type 0 where
  pub outcome : Outcome
  pub bytes : List ℕ
  pub plan : Option Plan

unfoldable pub printed : List Answer → List ℕ
printed [] = []
printed (answer ∷ answers) = answer.bytes ++ printed answers

unfoldable pub any_refused : List Answer → Bool
any_refused [] = false
any_refused (answer ∷ answers) = is_refused answer.outcome || any_refused answers

-- the answer of a refusal is its line
abbrev pub refused_as : Refusal → Answer
refused_as r = record { outcome = Refused r; bytes = closing_line (Refused r); plan = None }

abbrev pub refused_at : ℕ → Answer
refused_at at = refused_as (Syntax at)
