-- Grammars: each says which lists of tokens spell which value.
use Rattle.std.specs.Prelude.{◌≡◌, List, [], ◌∷◌, ◌++◌, ◌⊎◌, Option, Some, None}

-- one token that has a value
abbrev pub Token : {T V : Type 0} → (T → Option V) → V → List T → Type 0
Token {T} p v ts = (t : T) × (p t ≡ Some v) × (ts ≡ t ∷ [])

-- nothing, for this value
abbrev pub Empty : {T V : Type 0} → V → V → List T → Type 0
Empty x v ts = (v ≡ x) × (ts ≡ [])

-- A, then what its value asks for
abbrev pub Bind : {T U V : Type 0} → (U → List T → Type 0) → (U → V → List T → Type 0) → V → List T → Type 0
Bind {T} {U} A B v ts = (u : U) × (x : List T) × (y : List T) × A u x × B u v y × (ts ≡ x ++ y)

-- A | B
abbrev pub Either : {T V : Type 0} → (V → List T → Type 0) → (V → List T → Type 0) → V → List T → Type 0
Either A B v ts = A v ts ⊎ B v ts

-- { A }, where each turn goes from one value to the next
pub data Iter {T V : Type 0} (A : V → V → List T → Type 0) : V → V → List T → Type 0 where
  stop : (v : V) → Iter A v v []
  turn : (s u v : V) (x xs : List T) → A s u x → Iter A u v xs → Iter A s v (x ++ xs)

-- A B, with both values made one
abbrev pub With : {T U V W : Type 0} → (U → V → W) → (U → List T → Type 0) → (V → List T → Type 0) → W → List T → Type 0
With f A B = Bind A (λ u. Bind B (λ v. Empty (f u v)))

-- k A, whose value goes with the one before it
abbrev pub Next : {T U V : Type 0} → (T → Option (Unit {0})) → (V → U → V) → (U → List T → Type 0) → V → V → List T → Type 0
Next k f A s = Bind (Token k) (λ _. Bind A (λ a. Empty (f s a)))

-- A { k A }
abbrev pub Chain : {T U V : Type 0} → (T → Option (Unit {0})) → (U → V) → (V → U → V) → (U → List T → Type 0) → V → List T → Type 0
Chain k g f A = Bind A (λ u v. Iter (Next k f A) (g u) v)

-- A { k A }, as the list of its values
abbrev pub Listed : {T V : Type 0} → (T → Option (Unit {0})) → (V → List T → Type 0) → List V → List T → Type 0
Listed k A = Chain k (λ v. v ∷ []) (λ s v. s ++ v ∷ []) A

-- [ k A ]
abbrev pub Perhaps : {T V : Type 0} → (T → Option (Unit {0})) → (V → List T → Type 0) → Option V → List T → Type 0
Perhaps k A = Either (Bind (Token k) (λ _. Bind A (λ a. Empty (Some a)))) (Empty None)
