use Rattle.std.proofs.Common.{ap, sym, ◌∙◌}
use Rattle.spec_sealing.specs.Gcm.{with_key_stream}
use Rattle.spec_sealing.proofs.KeyStream.{with_key_stream-with_key_stream}
use Rattle.spec_sealing.proofs.laws.sealed_opens.Goals as goal

pub returns : goal.returns
returns c = λ e iv a p c' t sealed.
    record {
      tag = sealed.tag;
      text = sym (ap (with_key_stream e iv) sealed.text ∙ with_key_stream-with_key_stream e iv p);
    }
