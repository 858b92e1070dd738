-- Definitions: the limits, each once.
use Rattle.std.specs.Prelude.{ℕ, ◌^◌}

-- the last instant: 9999-12-31T23:59:59.999Z
abbrev pub last_instant : ℕ
last_instant = 253402300799999

-- bytes of a query's text
abbrev pub most_text_bytes : ℕ
most_text_bytes = 65536

-- brackets that are open at a place of a query's text
abbrev pub most_open : ℕ
most_open = 32

-- windows of a query
abbrev pub most_windows : ℕ
most_windows = 16

-- variables of a query, of brackets, labels and aggregates among them
abbrev pub most_variables : ℕ
most_variables = 64

-- triple patterns of a query, those of paths among them
abbrev pub most_patterns : ℕ
most_patterns = 64

-- operators, calls and aggregates of a query
abbrev pub most_operators : ℕ
most_operators = 512

-- elements of a query's groups that aren't triples
abbrev pub most_elements : ℕ
most_elements = 256

-- rows of a query's VALUES, all together
abbrev pub most_value_rows : ℕ
most_value_rows = 4096

-- live queries
abbrev pub most_queries : ℕ
most_queries = 256

-- triples of an item
abbrev pub most_triples : ℕ
most_triples = 100000

-- triples of all items that some window still needs
abbrev pub most_held : ℕ
most_held = 1000000

-- stored quads
abbrev pub most_quads : ℕ
most_quads = 1000000

-- rows of a part of a query
abbrev pub most_rows : ℕ
most_rows = 1000000

-- rows that COUNT counts
abbrev pub most_counted : ℕ
most_counted = 2 ^ 32

-- ms that an item may be behind the latest one, at most: a day
abbrev pub most_slack : ℕ
most_slack = 86400000

-- recorded streams that are read together
abbrev pub most_streams : ℕ
most_streams = 16

-- items that the generator makes
abbrev pub most_items : ℕ
most_items = 1000000

-- bytes of a block of a log
abbrev pub most_block_bytes : ℕ
most_block_bytes = 16777216

-- bytes of a log
abbrev pub most_log_bytes : ℕ
most_log_bytes = 2 ^ 40

-- bytes of a file that is read whole
abbrev pub most_file_bytes : ℕ
most_file_bytes = 67108864
