-- Sixteen bytes spell an integer.
use Rattle.std.proofs.Common.{◌≡◌, ◌<◌, ◌+◌, ◌*◌, ◌/◌, ◌%◌, ◌^◌, ℕ, arith}
use Rattle.std.proofs.Math.Nat as nat
use Rattle.std.specs.Int.{w128, to_be_bytes, from_be_bytes}

byte_and_rest : (n p : ℕ) → n / p ≡ n / p % 256 + n / (p * 256) * 256
byte_and_rest n p = omega (arith, nat.div-div-eq-div-mul n p 256)

joined_16 : (a0 a1 a2 a3 a4 a5 a6 a7 a8 a9 a10 a11 a12 a13 a14 a15 n p1 p2 p3 p4 p5 p6 p7 p8 p9 p10 p11 p12 p13 p14 p15 : ℕ)
    → n ≡ a0 + p1 * 256 → p1 ≡ a1 + p2 * 256 → p2 ≡ a2 + p3 * 256 → p3 ≡ a3 + p4 * 256 → p4 ≡ a4 + p5 * 256 → p5 ≡ a5 + p6 * 256 → p6 ≡ a6 + p7 * 256 → p7 ≡ a7 + p8 * 256 → p8 ≡ a8 + p9 * 256 → p9 ≡ a9 + p10 * 256 → p10 ≡ a10 + p11 * 256 → p11 ≡ a11 + p12 * 256 → p12 ≡ a12 + p13 * 256 → p13 ≡ a13 + p14 * 256 → p14 ≡ a14 + p15 * 256 → p15 ≡ a15
    → a15 * 1329227995784915872903807060280344576 + a14 * 5192296858534827628530496329220096 + a13 * 20282409603651670423947251286016 + a12 * 79228162514264337593543950336 + a11 * 309485009821345068724781056 + a10 * 1208925819614629174706176 + a9 * 4722366482869645213696 + a8 * 18446744073709551616 + a7 * 72057594037927936 + a6 * 281474976710656 + a5 * 1099511627776 + a4 * 4294967296 + a3 * 16777216 + a2 * 65536 + a1 * 256 + a0 ≡ n
joined_16 a0 a1 a2 a3 a4 a5 a6 a7 a8 a9 a10 a11 a12 a13 a14 a15 n p1 p2 p3 p4 p5 p6 p7 p8 p9 p10 p11 p12 p13 p14 p15 at_0 at_1 at_2 at_3 at_4 at_5 at_6 at_7 at_8 at_9 at_10 at_11 at_12 at_13 at_14 at_15 = omega arith

-- what was written as 16 bytes is what is read of them
pub from_be_bytes-to_be_bytes_16 : (n : ℕ) → n < 2 ^ 128 → from_be_bytes w128 (to_be_bytes w128 n) ≡ n
from_be_bytes-to_be_bytes_16 n fits =
    let low : n ≡ n % 256 + n / 256 * 256 = omega arith in
    let high : n / 1329227995784915872903807060280344576 ≡ n / 1329227995784915872903807060280344576 % 256 = omega arith in
    joined_16 _ _ _ _ _ _ _ _ _ _ _ _ _ _ _ _ n _ _ _ _ _ _ _ _ _ _ _ _ _ _ _ low (byte_and_rest n 256) (byte_and_rest n 65536) (byte_and_rest n 16777216) (byte_and_rest n 4294967296) (byte_and_rest n 1099511627776) (byte_and_rest n 281474976710656) (byte_and_rest n 72057594037927936) (byte_and_rest n 18446744073709551616) (byte_and_rest n 4722366482869645213696) (byte_and_rest n 1208925819614629174706176) (byte_and_rest n 309485009821345068724781056) (byte_and_rest n 79228162514264337593543950336) (byte_and_rest n 20282409603651670423947251286016) (byte_and_rest n 5192296858534827628530496329220096) high
