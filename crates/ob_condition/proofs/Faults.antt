-- A fault that is handed on, and tokens that grow fewer.
use Rattle.std.proofs.Common.{◌≡◌, ◌<◌, ◌≤◌, List, ◌∷◌, length, Result, Ok, Err, ap, arith}
use Rattle.std.specs.Prelude.{IfOk}
use Rattle.std.specs.Borrow.{Bor}
use Rattle.ob_token.specs.declared.token.Token.{Token}
use Rattle.ob_condition.specs.declared.reader.Fault.{Fault}
use Rattle.ob_condition.specs.declared.reader.Fault.TheVariants.{Memory, Stuck}
use Rattle.ob_condition.specs.Reading.{Fails, Gives, Read}

pub through : {U V : Type 0} (fault : Fault) (x : Read U) (y : Read V) → ((rest : List Token) → x ≡ Err rest → y ≡ Err rest) → Fails fault x → Fails fault y
through Memory x y go h = tt
through (Stuck rest) x y go h = go rest.now h

pub fewer : (rest after next : List Token) (t : Token) → rest ≡ t ∷ after → length next ≤ length after → length next < length rest
fewer rest after next t e le = omega (arith, ap length e)

pub gives_within : {U V : Type 0} (view : U → V) (r : Result (U × Bor (List Token)) Fault) (read : Read V) (ts : List Token) → Gives view r read
    → ((v : V) (rest : List Token) → read ≡ Ok (v, rest) → length rest ≤ length ts) → IfOk r (λ p. length p.1.now ≤ length ts)
gives_within view (Ok p) read ts gives less = less (view p.0) p.1.now gives
gives_within view (Err fault) read ts gives less = tt
