mod FileLaws
mod HistoryLaws
