-- The pass that lines become. Assumes nothing.
use Rattle.std.specs.Prelude.{ℕ, Bool, List, ◌++◌, length, Option, Some, None, Ok, Err, Result, codes, decimal, nat_le, find, vec_items}
use Rattle.pass_lines.specs.Cltus.{cltus_given}
use Rattle.pass_lines.specs.Symbols.{segments_sent, segments_received, all_symbols}
use Rattle.pass_lines.specs.Places.{places_of}
use Rattle.pass_lines.specs.Forms.{form_word, octets_made}
use Rattle.pass_lines.specs.declared.form.Form.{Form}
use Rattle.pass_lines.specs.declared.settings.PassSettings.{PassSettings}
use Rattle.pass_lines.specs.declared.Pass.{Pass}
use Rattle.pass_lines.specs.declared.error.PassError.{PassError}
use Rattle.pass_lines.specs.declared.error.PassError.TheVariants.{PastTheEnd}

-- a pass: its form, how many segments and symbols it has, and its octets
pub record Made : Type 0 where
  pub form : Form
  pub segments : ℕ
  pub symbols : ℕ
  pub octets : List ℕ

-- segments in a form
abbrev pub in_form : Form → List (List Bool) → Result (List ℕ) PassError → Result Made PassError
in_form form segments (Ok octets) = Ok (record {
  form = form;
  segments = length segments;
  symbols = length (all_symbols segments);
  octets = octets;
})
in_form form segments (Err e) = Err e

-- segments as they are received, if no place that is to be wrong is past the last symbol
abbrev pub unless_past : PassSettings → (sent : List (List Bool)) → Option ℕ → Result Made PassError
unless_past settings sent (Some place) = Err (PastTheEnd place (length (all_symbols sent)))
unless_past settings sent None =
    let received = segments_received (places_of settings.wrong) 0 sent in
    in_form settings.form received (octets_made settings.form received)

abbrev pub segments_made : PassSettings → (sent : List (List Bool)) → Result Made PassError
segments_made settings sent =
    unless_past settings sent (find (λ place. nat_le (length (all_symbols sent)) place) (places_of settings.wrong))

-- the segments in which CLTUs are sent
abbrev pub sent_by : PassSettings → List (List ℕ) → List (List Bool)
sent_by settings cltus = segments_sent settings.apart settings.first settings.guard cltus

-- CLTUs with idle in front, if no line is bad
abbrev pub cltus_made : PassSettings → Result (List (List ℕ)) PassError → Result Made PassError
cltus_made settings (Ok cltus) = segments_made settings (sent_by settings cltus)
cltus_made settings (Err e) = Err e

-- the pass of an input
abbrev pub pass_answer : PassSettings → List ℕ → Result Made PassError
pass_answer settings input = cltus_made settings (cltus_given settings.sender input)

-- a pass that was made
abbrev pub made : Pass → Made
made pass = record { form = pass.form; segments = pass.segments; symbols = pass.symbols; octets = vec_items pass.octets }

-- its form, its segments, its symbols and its octets
abbrev pub pass_text : Pass → List ℕ
pass_text pass =
    form_word pass.form ++ (codes " " ++ (decimal pass.segments ++ (codes " " ++ (decimal pass.symbols
    ++ (codes " " ++ decimal (length (vec_items pass.octets)))))))
