-- CLTUs that are read line by line. Assumes nothing.
use Rattle.std.proofs.Common.{◌≡◌, ℕ, ◌+◌, List, [], ◌∷◌, ◌++◌, Ok, Err, Result, Option, Some, None, refl, sym, ap, ◌∙◌, append_assoc}
use Rattle.cltu.specs.declared.Sender.{Sender}
use Rattle.pass_lines.specs.declared.error.PassError.{PassError}
use Rattle.pass_lines.specs.Cltus.{in_front}

-- further CLTUs behind those that are read
abbrev pub behind : List (List ℕ) → Result (List (List ℕ)) PassError → Result (List (List ℕ)) PassError
behind cltus (Ok further) = Ok (cltus ++ further)
behind cltus (Err e) = Err e

pub behind_none : (r : Result (List (List ℕ)) PassError) → r ≡ behind [] r
behind_none (Ok further) = refl
behind_none (Err e) = refl

pub behind_one : (cltus : List (List ℕ)) (cltu : List ℕ) (r : Result (List (List ℕ)) PassError) → behind cltus (in_front cltu r) ≡ behind (cltus ++ cltu ∷ []) r
behind_one cltus cltu (Ok further) = ap Ok (sym (append_assoc cltus (cltu ∷ []) further))
behind_one cltus cltu (Err e) = refl
