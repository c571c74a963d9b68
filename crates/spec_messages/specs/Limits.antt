-- What there may be too much of, and what an answer calls it (this project's own).
use Rattle.std.specs.Prelude.{ℕ, List, codes}

pub data Limit : Type 0 where
  many_headers : Limit
  many_items : Limit
  many_values : Limit
  long_block : Limit
  full_wire : Limit
  long_document : Limit
  many_records : Limit

abbrev pub limit_name : Limit → List ℕ
limit_name many_headers = codes "headers"
limit_name many_items = codes "payload"
limit_name many_values = codes "values"
limit_name long_block = codes "block"
limit_name full_wire = codes "wire"
limit_name long_document = codes "alter"
limit_name many_records = codes "records"
