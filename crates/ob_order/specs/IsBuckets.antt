-- What is true of the fields of buckets.
use Rattle.std.specs.Prelude.{◌≡◌, ◌≤◌, ◌<◌, ◌^◌, vec_len, vec_capacity}
use Rattle.ob_order.specs.declared.buckets.Buckets.TheInside.{Inside}

-- there are as many buckets as there may be places, a link to each place fits, and each place has a hash
pub record IsBuckets (a : Inside) : Type 0 where
  pub count : vec_len a.heads ≡ vec_capacity a.next
  pub hashes : vec_len a.hashes ≡ vec_len a.next
  pub room : vec_capacity a.next ≤ vec_capacity a.hashes
  pub few : vec_capacity a.next < 2 ^ 32
