-- What decoding answers, with what the hold means then, in the words of the rules. Assumes nothing.
use Rattle.std.specs.declared.ops.ControlFlow.{ControlFlow}
use Rattle.std.specs.declared.ops.ControlFlow.TheVariants.{Continue, Break}
use Rattle.reception.specs.declared.Report.{Report}
use Rattle.reception.specs.Decoding.{Held, Reading, reading, Decoded, goes_on, ends}
use Rattle.decoding.specs.declared.decoding.Decoding.{Decoding}

abbrev pub reading_in : Decoding → Reading
reading_in d = reading d.count d.word d.codeblocks d.corrections

abbrev pub decoded_as : ControlFlow Report Decoding → Held → Decoded
decoded_as (Continue decoding) held = goes_on held (reading_in decoding)
decoded_as (Break report) held = ends held report
