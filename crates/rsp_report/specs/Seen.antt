-- Definitions: of the times that a query watches those alone that decide whether it is due at an instant.
use Rattle.std.specs.Prelude.{ℕ, ◌-◌, ◌||◌}
use Rattle.std.specs.List.{filter}
use Rattle.rsp_spec.specs.Windows.{in_content}
use Rattle.rsp_report.specs.declared.contents.Watched.{Watched}

-- the window with those times alone that are in the content at t or at the instant before
abbrev pub seen_at : ℕ → Watched → Watched
seen_at t w =
    record {
      window = w.window;
      times = filter (λ time. in_content w.window t time || in_content w.window (t - 1) time) w.times;
      fresh = w.fresh;
    }
