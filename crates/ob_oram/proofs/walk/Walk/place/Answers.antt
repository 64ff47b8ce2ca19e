use Rattle.ob_oram.proofs.Heights.{bucket_some, bucket_w32, place_w32}
use Rattle.ob_oram.proofs.walk.Walk.place.Goals as goal

pub overflow_sub-result-in-Path : goal.overflow_sub-result-in-Path
overflow_sub-result-in-Path c =
    let walk = rw c.in-Path.is at c.requires.walk in
    let within = rw c.in-Path.is at c.requires.within in
    bucket_some c.in-Path.height c.in-Path.leaf c.args.c walk.0 walk.1 within

pub overflow_mul-result : goal.overflow_mul-result
overflow_mul-result c =
    let walk = rw c.in-Path.is at c.requires.walk in
    let within = rw c.in-Path.is at c.requires.within in
    bucket_w32 c.in-Path.height c.in-Path.leaf c.args.c walk.0 walk.1 within

pub overflow_add-result-in-Path : goal.overflow_add-result-in-Path
overflow_add-result-in-Path c =
    let walk = rw c.in-Path.is at c.requires.walk in
    let within = rw c.in-Path.is at c.requires.within in
    place_w32 c.in-Path.height c.in-Path.leaf c.args.c walk.0 walk.1 within
