use Rattle.std.proofs.Common.{◌≡◌, None, rules}
use Rattle.certificate_text.proofs.Heads.{no_signals, no_blocks, no_points, no_cells, no_last}
use Rattle.certificate_text.proofs.Heads.{shape_read}
use Rattle.certificate_text.proofs.read_head.shape.Goals as goal

pub returns-in_err-signals : goal.returns-in_err-signals
returns-in_err-signals c =
    let gave : c.from_residual.result ≡ None = search rules in
    rw gave (no_signals c.args.version c.args.text.now c.in_err-signals.ensures)

pub returns-in_err-blocks : goal.returns-in_err-blocks
returns-in_err-blocks c =
    let gave : c.from_residual-in_err-blocks.result ≡ None = search rules in
    rw gave (no_blocks c.args.version c.args.text.now c.in_ok-signals.rest.now c.in_ok-signals.signals
    (record { signals = c.in_ok-signals.ensures }) c.in_err-blocks.ensures)

pub returns-in_err-points : goal.returns-in_err-points
returns-in_err-points c =
    let gave : c.from_residual-in_err-points.result ≡ None = search rules in
    rw gave (no_points c.args.version c.args.text.now c.in_ok-signals.rest.now c.in_ok-blocks.rest.now
    c.in_ok-signals.signals c.in_ok-blocks.blocks
    (record { before = record { signals = c.in_ok-signals.ensures }; blocks = c.in_ok-blocks.ensures })
    c.in_err-points.ensures)

pub returns-in_err-cells : goal.returns-in_err-cells
returns-in_err-cells c =
    let gave : c.from_residual-in_err-cells.result ≡ None = search rules in
    rw gave (no_cells c.args.version c.args.text.now c.in_ok-signals.rest.now c.in_ok-blocks.rest.now
    c.in_ok-points.rest.now c.in_ok-signals.signals c.in_ok-blocks.blocks c.in_ok-points.points
    (record {
      before = record {
        before = record { signals = c.in_ok-signals.ensures };
        blocks = c.in_ok-blocks.ensures;
      };
      points = c.in_ok-points.ensures;
    }) c.in_err-cells.ensures)

pub returns-in_err-entries : goal.returns-in_err-entries
returns-in_err-entries c =
    let gave : c.from_residual-in_err-entries.result ≡ None = search rules in
    rw gave (no_last c.args.version c.args.text.now c.in_ok-signals.rest.now c.in_ok-blocks.rest.now
    c.in_ok-points.rest.now c.in_ok-cells.rest.now c.in_ok-signals.signals c.in_ok-blocks.blocks
    c.in_ok-points.points c.in_ok-cells.cells
    (record {
      before = record {
        before = record
            { before = record { signals = c.in_ok-signals.ensures }; blocks = c.in_ok-blocks.ensures };
        points = c.in_ok-points.ensures;
      };
      cells = c.in_ok-cells.ensures;
    }) c.in_err-entries.ensures)

pub returns : goal.returns
returns c = shape_read c.args.version c.args.text.now c.in_ok-signals.rest.now c.in_ok-blocks.rest.now
    c.in_ok-points.rest.now c.in_ok-cells.rest.now c.in_ok-entries.rest.now
    (record {
      signals = c.in_ok-signals.signals;
      blocks = c.in_ok-blocks.blocks;
      points = c.in_ok-points.points;
      cells = c.in_ok-cells.cells;
      entries = c.in_ok-entries.entries;
      references = c.in_ok-entries.references;
    })
    (record {
      before = record {
        before = record
            { before = record { signals = c.in_ok-signals.ensures }; blocks = c.in_ok-blocks.ensures };
        points = c.in_ok-points.ensures;
      };
      cells = c.in_ok-cells.ensures;
    }) c.in_ok-entries.ensures
