-- What receiving an input to its end prints. Assumes nothing.
use Rattle.std.specs.Prelude.{◌≡◌, ℕ, List, [], ◌∷◌, Option}
use Rattle.std.specs.Io.KnownBytes.{Appends, Consumes, IsAtEnd}
use Rattle.hold.specs.Candidates.{Showing}
use Rattle.reception.specs.Decoding.{Settings}
use Rattle.reception.specs.Rules.{State}
use Rattle.receive_lines.specs.declared.form.Form.{Form}
use Rattle.receive_lines.specs.declared.setup.Setup.{Setup}
use Rattle.receive_lines.specs.declared.view.View.{View}
use Rattle.receive_lines.specs.Lines.{whole_text}
use Rattle.receive_lines.specs.Pass.{placed_pass}
use Rattle.receive_lines.specs.Forms.{symbols_in_octets, AreOfForm}
use Rattle.receive_lines.specs.Answers.{IsTextOf}
use Rattle.receive_lines.specs.Releasing.{lines_of}

module _ (view : View) (form : Form) (input input_after output output_after : Option (List ℕ)) where
  -- the octets that the reader gave are all that it had, each of them one of the form, and the writer has got the text
  -- for the one segment that their symbols are
  pub record PrintsAll (setup : Setup) : Type 0 where
    pub octets : List ℕ
    pub given : Consumes input input_after octets
    pub all : IsAtEnd input_after
    pub form_kept : AreOfForm form octets
    pub text : List ℕ
    pub is_text : IsTextOf setup view (symbols_in_octets form octets ∷ []) text
    pub printed : Appends output output_after text

  -- the same of a receiver in a state
  pub record PrintsFrom (settings : Settings) (showing : Showing) (s : State) : Type 0 where
    pub octets : List ℕ
    pub given : Consumes input input_after octets
    pub all : IsAtEnd input_after
    pub form_kept : AreOfForm form octets
    pub printed : Appends output output_after
        (whole_text view (lines_of settings showing s (placed_pass (symbols_in_octets form octets ∷ []))))
