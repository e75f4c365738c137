-- The report that a job's parts are.
use Rattle.fs_script.specs.Report.{Report}
use Rattle.fs_report.specs.declared.report.Report as kept

-- the report whose answers, journals, files and slots these are
abbrev pub report_view : kept.Report → Report
report_view r = record {
  answers = r.answers.list;
  journals = r.journals;
  files = r.files;
  slots = r.slots;
}
