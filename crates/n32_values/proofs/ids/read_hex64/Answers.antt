use Rattle.std.proofs.Common.{◌∙◌, sym, ap, Some}
use Rattle.n32_values.proofs.Hexadecimal.{id_of-read, id_of-unread}
use Rattle.n32_values.proofs.ids.read_hex64.Goals as goal

pub returns-in-Ok : goal.returns-in-Ok
returns-in-Ok c = ap Some c.from_be_bytes.ensures ∙ sym (id_of-read c.args.text.now c.in-Ok.bytes (sym c.in-Ok.ensures))

pub returns-in-Err : goal.returns-in-Err
returns-in-Err c = sym (id_of-unread c.args.text.now c.in-Err.field-0 (sym c.in-Err.ensures))
