pub mod DialogueLaws
pub mod Dialogues
pub mod SizeDialogues
