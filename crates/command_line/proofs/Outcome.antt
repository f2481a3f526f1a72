-- Facts of one outcome. Assumes nothing.
use Rattle.std.specs.Prelude.{Result, Ok, Err, IfOk}

-- a fact of the value that follows from another
pub if_ok : {T E : Type 0} → {P Q : T → Type 0} (r : Result T E) → ((x : T) → P x → Q x) → IfOk r P → IfOk r Q
if_ok (Ok x) follows given = follows x given
if_ok (Err e) follows given = given
