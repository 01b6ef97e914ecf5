pub mod DownloadViews
pub mod Grants
pub mod PayloadViews
pub mod DownloadParts
pub mod DownloadLaws
