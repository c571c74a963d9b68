-- What a split answers: the sent block and its values, or the first limit that they pass.
use Rattle.std.specs.Prelude.{◌≡◌, ⊤, Result, Ok, Err}
use Rattle.spec_messages.specs.Limits as limits
use Rattle.spec_messages.specs.Splitting.{Parts}
use Rattle.block_forms.specs.Faults.{limit_view}
use Rattle.reformat_blocks.specs.declared.message_split.SplitFault.{SplitFault}
use Rattle.reformat_blocks.specs.declared.message_split.SplitFault.TheVariants.{Limit, NoMemory}
use Rattle.reformat_blocks.specs.declared.block.Split.{Split}

abbrev pub Splits : Result Split SplitFault → Result Parts limits.Limit → Type 0
Splits (Ok s) wanted = wanted ≡ Ok (s.block, s.values)
Splits (Err (Limit l)) wanted = wanted ≡ Err (limit_view l)
Splits (Err NoMemory) wanted = ⊤
