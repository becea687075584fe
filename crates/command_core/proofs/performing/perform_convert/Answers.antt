use Rattle.command_core.proofs.performing.perform_convert.Goals as goal

pub returns-in-Convert : goal.returns-in-Convert
returns-in-Convert g c = rw c.in-Convert.is c.convert_all.ensures

pub returns-in-ConvertDop : goal.returns-in-ConvertDop
returns-in-ConvertDop g c = rw c.in-ConvertDop.is (c.convert_dop_file.result, c.converted_dop.ensures, c.convert_dop_file.ensures)
