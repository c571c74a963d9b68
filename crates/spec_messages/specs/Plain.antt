-- The policy without mappings and types, under which nothing is secret but what is a hole (this project's own).
use Rattle.std.specs.Prelude.{[]}
use Rattle.spec_messages.specs.Policy.{Policy}

abbrev pub empty_policy : Policy
empty_policy = record { mappings = []; sorts = [] }
